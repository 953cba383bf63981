-- The forms of the conditions on the kinds of arguments, for every reading of conditions and terms.
use Rattle.std.proofs.Common.{◌≡◌, List, [], ◌∷◌, ◌++◌, Bool, true, false, ◌&&◌, if◌then◌else◌, refl, sym, ap, subst, ◌∙◌, true≢false}
use Rattle.std.specs.List.{list_any}
use Rattle.std.specs.Prelude.{⊤}
use Rattle.gil_values.specs.declared.kinds.Kind.{Kind}
use Rattle.gil_values.specs.Pure.{PureValue}
use Rattle.mem_model.specs.declared.failures.Failure.{Failure}
use Rattle.mem_model.specs.Tables.{failure_text}
use Rattle.pure_terms.specs.Kinds.{allows, known_kind}
use Rattle.pure_terms.specs.Pure.{PureTerm}
use Rattle.sym_chunks.specs.Arguments.{wrong_number, checked, no_property, is_property, unknown_action, may_be_symbol, may_be_property}
use Rattle.sym_chunks.specs.Cases.{ChunkBranches, PureCase, branches_of, choose, failure}
use Rattle.sym_model.specs.Alternatives.{Alternatives, Hold, never, always, both, is_empty, of_kind, not_of_kind}
use Rattle.sym_model.specs.Forms.{OpensOnly}
use Rattle.sym_model.specs.Lists.{Each}
use Rattle.sym_model.specs.Pure.{PureChunk}
use Rattle.sym_model.proofs.ListLaws.{each_append, each_to}
use Rattle.sym_chunks.proofs.CaseLaws.{none_chosen, each_every}
use Rattle.sym_chunks.proofs.Opening.{OpenFor, Opens, closed_open, branches_open, chosen_open}
use Rattle.sym_chunks.proofs.Readings.{NoOpen, closed_reading, loose_state, positive_closed, negative_closed}
use Rattle.sym_chunks.proofs.Shapes.{EachAtom, Reading, IsFineState, Shaped, IsFineCase, both_shaped, or_shaped, kind_shaped, not_kind_shaped, wrong_kind, both_never, ends_always, failure_shaped, surely_shaped, chosen_shaped}

module _ (g : Reading) (cs : List PureChunk) (state : IsFineState g cs) where
  -- the arguments are surely of wrong kinds
  pub wrong_fine : (wrong right : Alternatives) (cases : List PureCase) → list_any is_empty wrong ≡ true → right ≡ never → Each (Shaped g) (checked wrong right cs cases)
  wrong_fine wrong right cases sure none =
      each_append (Shaped g) (branches_of wrong cs (failure Failure.Kind)) (choose right cases)
      (surely_shaped g wrong cs (failure Failure.Kind) sure state (g.r_text (failure_text Failure.Kind)))
      (subst (λ x. Each (Shaped g) (choose x cases)) (sym none) (none_chosen (Shaped g) cases))

  pub right_fine : (wrong right : Alternatives) (cases : List PureCase) → EachAtom g.Q wrong → EachAtom g.Q right → Each (IsFineCase g) cases → Each (Shaped g) (checked wrong right cs cases)
  right_fine wrong right cases shaped_wrong shaped_right fine =
      each_append (Shaped g) (branches_of wrong cs (failure Failure.Kind)) (choose right cases) (failure_shaped g wrong cs Failure.Kind shaped_wrong state) (chosen_shaped g right shaped_right cases fine)

  pub number_fine : Each (Shaped g) (wrong_number cs)
  number_fine = failure_shaped g always cs Failure.Arity (tt, tt) state

  pub unknown_fine : Each (Shaped g) (unknown_action cs)
  unknown_fine = failure_shaped g always cs Failure.Action (tt, tt) state

  -- a location
  pub symbol_fine : (l : PureTerm) (cases : List PureCase) (b : Bool) → may_be_symbol l ≡ b → Each g.Given (if b then l ∷ [] else []) → (g.Given l → Each (IsFineCase g) cases) → Each (Shaped g) (checked (not_of_kind l Kind.Sym) (of_kind l Kind.Sym) cs cases)
  symbol_fine l cases true is asked fine = right_fine (not_of_kind l Kind.Sym) (of_kind l Kind.Sym) cases (not_kind_shaped g l Kind.Sym asked.0 refl) (kind_shaped g l Kind.Sym asked.0 refl) (fine asked.0)
  symbol_fine l cases false is asked fine = let wrong = wrong_kind g l Kind.Sym is in wrong_fine (not_of_kind l Kind.Sym) (of_kind l Kind.Sym) cases (ap (list_any is_empty) wrong.1) wrong.0

  -- a location and a name
  both_wrong : (l p : PureTerm) (a b : Bool) → may_be_symbol l ≡ a → allows (known_kind p) Kind.Str ≡ b → (a && b) ≡ false → (list_any is_empty (no_property l p) ≡ true) × (is_property l p ≡ never)
  both_wrong l p false b is_a is_b wrong = (
    ap (λ x. list_any is_empty (x ++ not_of_kind p Kind.Str)) (wrong_kind g l Kind.Sym is_a).1,
    ap (λ x. both x (of_kind p Kind.Str)) (wrong_kind g l Kind.Sym is_a).0,
  )
  both_wrong l p true false is_a is_b wrong = (
    ap (λ x. list_any is_empty (not_of_kind l Kind.Sym ++ x)) (wrong_kind g p Kind.Str is_b).1 ∙ ends_always g (not_of_kind l Kind.Sym),
    ap (both (of_kind l Kind.Sym)) (wrong_kind g p Kind.Str is_b).0 ∙ both_never g (of_kind l Kind.Sym),
  )
  both_wrong l p true true is_a is_b wrong = absurd (true≢false wrong)

  pub property_fine : (l p : PureTerm) (cases : List PureCase) (b : Bool) → may_be_property l p ≡ b → Each g.Given (if b then l ∷ p ∷ [] else []) → (g.Given l → g.Given p → Each (IsFineCase g) cases) → Each (Shaped g) (checked (no_property l p) (is_property l p) cs cases)
  property_fine l p cases true is asked fine =
      right_fine (no_property l p) (is_property l p) cases
      (or_shaped g (not_of_kind l Kind.Sym) (not_of_kind p Kind.Str) (not_kind_shaped g l Kind.Sym asked.0 refl) (not_kind_shaped g p Kind.Str asked.1.0 refl))
      (both_shaped g (of_kind l Kind.Sym) (of_kind p Kind.Str) (kind_shaped g l Kind.Sym asked.0 refl) (kind_shaped g p Kind.Str asked.1.0 refl))
      (fine asked.0 asked.1.0)
  property_fine l p cases false is asked fine =
      let wrong = both_wrong l p (may_be_symbol l) (allows (known_kind p) Kind.Str) refl refl is in wrong_fine (no_property l p) (is_property l p) cases wrong.0 wrong.1

-- ---- what needs no literal form

pub closed_state : (cs : List PureChunk) → IsFineState closed_reading cs
closed_state cs = loose_state NoOpen positive_closed negative_closed (λ s t. ⊤) (λ s. ⊤) cs (each_every (λ c. ⊤) (λ c. tt) cs)

module _ (v : List PureValue) (D : PureTerm → Type 0) (cs : List PureChunk) where
  -- fine cases need no form
  pub fine_open : (c : PureCase) → IsFineCase closed_reading c → OpenFor v D c.when
  fine_open c fine = closed_open v D c.when fine.when

  pub shaped_open : (bs : ChunkBranches) → Each (Shaped closed_reading) bs → Each (Opens v D) bs
  shaped_open bs shaped = each_to (Shaped closed_reading) (Opens v D) bs (λ b fine taken. each_to NoOpen (OpensOnly D) b.conds (λ a no t e. absurd (no t e)) fine.conds) shaped

  pub checked_open : (wrong right : Alternatives) (cases : List PureCase) → EachAtom NoOpen wrong → EachAtom NoOpen right → (Hold v right → Each (λ c. OpenFor v D c.when) cases) → Each (Opens v D) (checked wrong right cs cases)
  checked_open wrong right cases closed_wrong closed_right opens =
      each_append (Opens v D) (branches_of wrong cs (failure Failure.Kind)) (choose right cases) (branches_open v D wrong cs (failure Failure.Kind) (closed_open v D wrong closed_wrong))
      (chosen_open v D right (closed_open v D right closed_right) cases opens)

  pub number_open : Each (Opens v D) (wrong_number cs)
  number_open = shaped_open (wrong_number cs) (number_fine closed_reading cs (closed_state cs))

  pub property_open : (l p : PureTerm) (cases : List PureCase) → (Hold v (is_property l p) → Each (λ c. OpenFor v D c.when) cases) → Each (Opens v D) (checked (no_property l p) (is_property l p) cs cases)
  property_open l p cases opens =
      checked_open (no_property l p) (is_property l p) cases
      (or_shaped closed_reading (not_of_kind l Kind.Sym) (not_of_kind p Kind.Str) (not_kind_shaped closed_reading l Kind.Sym tt refl) (not_kind_shaped closed_reading p Kind.Str tt refl))
      (both_shaped closed_reading (of_kind l Kind.Sym) (of_kind p Kind.Str) (kind_shaped closed_reading l Kind.Sym tt refl) (kind_shaped closed_reading p Kind.Str tt refl)) opens

  pub unknown_open : Each (Opens v D) (unknown_action cs)
  unknown_open = shaped_open (unknown_action cs) (unknown_fine closed_reading cs (closed_state cs))
