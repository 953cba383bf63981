-- Narrow states: their conditions are decided, and their memory is narrow. Adding uses of `prop` with narrow terms leaves them narrow.
use Rattle.std.specs.Prelude.{ℕ, ◌+◌, ◌*◌, pos, neg_ℤ, List, ◌++◌, length, IsTrue, codes}
use Rattle.std.specs.Str.{bytes_eq}
use Rattle.gil_syntax.specs.Pure.{PurePredUse, PureItem, pure, uses}
use Rattle.pure_terms.specs.Pure.{PureTerm, PureAtom}
use Rattle.sym_evaluation.specs.Pure.{PureStore}
use Rattle.sym_evaluation.specs.Questions.{IsAsked, AreTermsOf}
use Rattle.sym_model.specs.Laws.{IsDecidedWithin}
use Rattle.sym_model.specs.Lists.{Each, OneOf}
use Rattle.sym_model.specs.Plain.{IsNarrowWithin, IsNarrowState}
use Rattle.sym_model.specs.Terms.{StateTerms}
use Rattle.sym_states.specs.Plainly.{item_growth}
use Rattle.sym_states.specs.Pure.{PureState}

-- A state that is narrow with numbers up to b: each condition has a form of the fragment, and the memory is narrow.
pub record IsNarrowWith {S : Type 0} (terms : S → StateTerms) (b : ℕ) (s : PureState S) : Type 0 where
  pub decided : Each (IsDecidedWithin (neg_ℤ (pos b)) (pos b)) s.conds
  pub narrow_memory : IsNarrowState (terms s.memory) (neg_ℤ (pos b)) (pos b)

-- a use of `prop` that asks nothing of its arguments, and whose terms are narrow with numbers up to b
pub record IsNarrowUse (bs : PureStore) (b : ℕ) (u : PurePredUse) : Type 0 where
  pub of_name : IsTrue (bytes_eq u.pred (codes "prop"))
  pub nothing_asked : (a : PureAtom) → ¬ OneOf (λ e. IsAsked bs e a) (u.ins ++ u.outs)
  pub narrow_ins : (ts : List PureTerm) → AreTermsOf bs u.ins ts → Each (IsNarrowWithin (neg_ℤ (pos b)) (pos b)) ts
  pub narrow_outs : (ts : List PureTerm) → AreTermsOf bs u.outs ts → Each (IsNarrowWithin (neg_ℤ (pos b)) (pos b)) ts

abbrev pub IsNarrowItem : PureStore → ℕ → PureItem → Type 0
IsNarrowItem bs b (pure e) = ⊥
IsNarrowItem bs b (uses u) = IsNarrowUse bs b u

-- From a narrow state adding the item has come to a narrow one.
abbrev pub StaysNarrow : {S : Type 0} → (S → StateTerms) → PureStore → PureItem → PureState S → PureState S → Type 0
StaysNarrow terms bs item s r = (b : ℕ) → IsNarrowItem bs b item → IsNarrowWith terms b s → IsNarrowWith terms (b + item_growth) r

-- From a narrow state adding uses of `prop` comes to narrow states: so no literal form is needed.
abbrev pub StayNarrow : {S : Type 0} → (S → StateTerms) → PureStore → List PureItem → PureState S → List (PureState S) → Type 0
StayNarrow terms bs items s rs =
    (b : ℕ) → Each (IsNarrowItem bs b) items → IsNarrowWith terms b s → Each (IsNarrowWith terms (b + length items * item_growth)) rs
