use Rattle.std.proofs.Common.{◌≡◌, ◌++◌, map, length, sym, ap, subst, ◌∙◌}
use Rattle.gil_values.specs.Symbols.{symbols_of_all}
use Rattle.gil_values.specs.View.{values_view}
use Rattle.pure_terms.specs.Renaming.{renamed}
use Rattle.sym_witness.specs.Numbering.{fresh_symbols, place_in, AreOthers, IsNumbered}
use Rattle.sym_witness.proofs.Numbered.{is_numbered}
use Rattle.sym_witness.proofs.numbering.number_symbols.Goals as goal

pub returns : goal.returns
returns c =
    let vars = c.args.vars.now in
    let v = values_view c.args.valuation.now in
    let free = c.in_ok-names.names.items in
    let all : c.as_slice.result.now ≡ symbols_of_all v = c.as_slice.ensures.value ∙ c.in_ok-add_all_symbols.ensures ∙ ap (λ ns. ns ++ symbols_of_all v) c.new-all.ensures.items in
    let fresh : c.as_slice-2.result.now ≡ fresh_symbols vars v = c.as_slice-2.ensures.value ∙ c.in_ok-fresh.ensures in
    let are : AreOthers (symbols_of_all v) (fresh_symbols vars v) free =
    subst (λ ns. AreOthers ns (fresh_symbols vars v) free) all (subst (λ ns. AreOthers c.as_slice.result.now ns free) fresh c.in_ok-names.ensures) in
    let names : c.as_slice-4.result.now ≡ free ++ fresh_symbols vars v = c.as_slice-4.ensures.value ∙ c.in_ok-append.ensures.items ∙ ap (λ ns. free ++ ns) c.in_ok-fresh.ensures in
    let view : values_view c.in_ok-valuation.valuation ≡ map (renamed (place_in (free ++ fresh_symbols vars v))) v = c.in_ok-valuation.ensures ∙ ap (λ ns. map (renamed (place_in ns)) v) names in
    subst (λ n. IsNumbered vars n v (values_view c.in_ok-valuation.valuation)) (sym (ap length c.as_slice-3.ensures.value))
    (subst (IsNumbered vars (length free) v) (sym view) (is_numbered vars v free c.requires are))
