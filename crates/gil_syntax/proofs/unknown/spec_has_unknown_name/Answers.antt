use Rattle.std.proofs.Common.{◌≡◌, ℕ, List, true, false, ◌||◌, not, map, is_some, sym, ap, ◌∙◌}
use Rattle.std.specs.List.{list_any}
use Rattle.gil_syntax.specs.Programs.{find_proc}
use Rattle.gil_syntax.specs.Subexpressions.{assertions_of}
use Rattle.gil_syntax.specs.Valid.{is_among, piece_of_assertion, names_undeclared, uses_unknown, predicates_of}
use Rattle.gil_syntax.specs.View.{proc_view, spec_view}
use Rattle.gil_syntax.specs.ByName.{parts_of}
use Rattle.gil_syntax.specs.Names.{has_name}
use Rattle.gil_syntax.proofs.ByNameLemmas.{is_some-map}
use Rattle.gil_syntax.proofs.UnknownLemmas.{or_none, assertions_unknown, is_among-procs}
use Rattle.gil_syntax.proofs.unknown.spec_has_unknown_name.Goals as goal

pub returns-then-is_none : goal.returns-then-is_none
returns-then-is_none c =
    let p = parts_of c.args.program.now in
    let sp = spec_view c.args.spec.now in
    let found : is_some (find_proc p.procs sp.name) ≡ false =
    ap (λ x. is_some (find_proc p.procs x)) (sym c.as_str.ensures.characters) ∙ ap is_some (sym c.proc.ensures) ∙ is_some-map (λ q. proc_view q.now) c.proc.result ∙ c.if-is_none.ensures in
    ap (λ b. not b || list_any (λ d. names_undeclared d || uses_unknown (predicates_of p) d) (map (piece_of_assertion sp.logicals) (assertions_of sp))) (sym (is_among-procs p.procs sp.name ∙ found))

pub returns : goal.returns
returns c =
    let p = parts_of c.args.program.now in
    let sp = spec_view c.args.spec.now in
    let found : is_some (find_proc p.procs sp.name) ≡ true =
    ap (λ x. is_some (find_proc p.procs x)) (sym c.as_str.ensures.characters) ∙ ap is_some (sym c.proc.ensures) ∙ is_some-map (λ q. proc_view q.now) c.proc.result ∙ c.if-is_none.ensures in
    let known = λ (x : List ℕ). has_name c.in_ok-declared.declared x || has_name c.new-none.result x in
    let declared = or_none (has_name c.in_ok-declared.declared) c.new-none.result c.new-none.ensures.empty ∙ c.in_ok-declared.ensures ∙ ap (λ ps. is_among (map (λ q. q.name) ps)) c.as_slice.ensures in
    c.in_spec.ensures ∙ assertions_unknown p known c.args.spec.now.logicals declared (assertions_of sp)
    ∙ ap (λ b. not b || list_any (λ d. names_undeclared d || uses_unknown (predicates_of p) d) (map (piece_of_assertion sp.logicals) (assertions_of sp))) (sym (is_among-procs p.procs sp.name ∙ found))
