use Rattle.std.proofs.Common.{◌≡◌, ◌≤◌, ℕ, length, map, sym, ap, ◌∙◌, subst, arith}
use Rattle.std.proofs.lemmas.List.{length-map}
use Rattle.pure_terms.specs.View.{atom_view, atoms_view}
use Rattle.equality_core.specs.Classes.{PureClasses, classes_view, given_list, IsTaken}
use Rattle.equality_core.specs.Nodes.{node_view}
use Rattle.equality_core.proofs.Taking.{at_start_of, at_start, whole_taken}
use Rattle.equality_core.proofs.closing.close.Goals as goal

pub places-init : goal.places-init
places-init c =
    let is : classes_view (record { given = c.len.result; list = c.args.list; opened = c.new.result; nodes = record { items = c.new-2.result } }) ≡ at_start_of (atoms_view c.args.list) =
    (λ i. record { given = (c.len.ensures ∙ sym (length-map c.args.list atom_view)) i; list = atoms_view c.args.list; opened = c.new.ensures.items i; nodes = map node_view (c.new-2.ensures.items i) }) in
    let start = at_start (atoms_view c.args.list) in
    record { given = ap given_list is ∙ start.0; taken = subst (λ (s : PureClasses). IsTaken s 0) (sym is) start.1 }

pub returns : goal.returns
returns c =
    let past : length (atoms_view c.places.classes.list) ≤ c.places.place = at_most (length (atoms_view c.places.classes.list)) _ c.places.place (length-map c.places.classes.list atom_view ∙ sym c.len-in-places.ensures) c.places-test.false in
    (c.places.invariant.given, whole_taken (classes_view c.places.classes) c.places.place past c.places.invariant.taken) where
      at_most : (a b p : ℕ) → a ≡ b → b ≤ p → a ≤ p
      at_most a b p e h = omega arith
