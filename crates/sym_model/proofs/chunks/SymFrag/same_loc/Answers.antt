use Rattle.std.proofs.Common.{◌≡◌, ◌<◌, length, slice_get, Some, sym, ap, ◌∙◌, arith}
use Rattle.std.proofs.lemmas.List.{length-map}
use Rattle.std.proofs.lemmas.Option.{same_Some}
use Rattle.gil_values.proofs.Lists.{slice_get-read}
use Rattle.pure_terms.specs.EqualityLaws.{same_term-same, same_term-Decides}
use Rattle.pure_terms.specs.View.{term_view}
use Rattle.sym_model.specs.View.{chunk_view}
use Rattle.sym_model.proofs.chunks.SymFrag.same_loc.Goals as goal

pub returns : goal.returns
returns c = λ first second at_first at_second.
    let items = c.args.self.now.chunks.items in
    let s = term_view c.index.result.now.loc in
    let t = term_view c.index-2.result.now.loc in
    let one_below : c.args.first < length c.args.self.now.chunks.items = omega (arith, length-map c.args.self.now.chunks.items chunk_view, c.requires.first) in
    let other_below : c.args.second < length c.args.self.now.chunks.items = omega (arith, length-map c.args.self.now.chunks.items chunk_view, c.requires.second) in
    let one : first.loc ≡ s
    = ap (λ x. x.loc) (same_Some first (chunk_view c.index.result.now) (sym at_first ∙ slice_get-read chunk_view items c.args.first c.index.result.now one_below c.index.ensures)) in
    let other : second.loc ≡ t
    = ap (λ x. x.loc) (same_Some second (chunk_view c.index-2.result.now) (sym at_second ∙ slice_get-read chunk_view items c.args.second c.index-2.result.now other_below c.index-2.ensures)) in (
      λ is. one ∙ (same_term-same s t (sym c.eq.ensures ∙ is) ∙ sym other),
      λ same. c.eq.ensures ∙ (same_term-Decides s t).1 (sym one ∙ (same ∙ other)),
    )
