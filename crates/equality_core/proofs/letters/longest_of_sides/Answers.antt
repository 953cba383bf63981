use Rattle.std.proofs.Common.{◌≡◌, ◌≤◌, ℕ, List, map, ap, ◌∙◌, subst, arith}
use Rattle.pure_terms.specs.declared.atoms.Atom.{Atom}
use Rattle.pure_terms.specs.Pure.{term_of}
use Rattle.pure_terms.specs.View.{atom_view}
use Rattle.equality_core.specs.Values.{letters_of_sides, AreShort}
use Rattle.equality_core.proofs.Finding.{each_more, each_all}
use Rattle.equality_core.proofs.letters.longest_of_sides.Goals as goal

pub loop-atom-preserved : goal.loop-atom-preserved
loop-atom-preserved c =
    each_more atom_view c.as_slice-atoms.result.now (λ k a. letters_of_sides (term_of a) ≤ c.max-longest.result) c.loop-atom.atom-index c.atom-item.result c.loop-atom-test.true c.atom-item.is
    (λ k a below at. still (letters_of_sides (term_of a)) (c.loop-atom.invariant k a below at)) here where
      still : (m : ℕ) → m ≤ c.loop-atom.longest → m ≤ c.max-longest.result
      still m h = omega (arith, h, c.max-longest.ensures)

      same : c.letters_of_sides.result ≡ letters_of_sides (term_of (atom_view c.atom-item.result))
      same = c.letters_of_sides.ensures ∙ ap letters_of_sides c.term.ensures

      here : letters_of_sides (term_of (atom_view c.atom-item.result)) ≤ c.max-longest.result
      here = omega (arith, same, c.max-longest.ensures)

pub returns : goal.returns
returns c =
    subst (λ (xs : List Atom). AreShort c.loop-atom.longest (map atom_view xs)) c.as_slice-atoms.ensures
    (each_all atom_view c.as_slice-atoms.result.now (λ k a. letters_of_sides (term_of a) ≤ c.loop-atom.longest) c.loop-atom.atom-index c.loop-atom-test.false c.loop-atom.invariant)
