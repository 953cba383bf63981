-- What adding uses of `prop` to narrow states gives.
use Rattle.std.proofs.Common.{◌≡◌, ℕ, ◌+◌, ◌*◌, ◌≤◌, ℤ, pos, neg_ℤ, ◌-ℤ◌, ◌+ℤ◌, ◌≤ℤ◌, arith, List, [], ◌∷◌, ◌++◌, IsTrue, refl, sym, ap, subst, ◌∙◌}
use Rattle.std.specs.Str.{bytes_eq}
use Rattle.gil_syntax.specs.Pure.{PureExpr, PurePredUse, PureItem, pure, uses}
use Rattle.pure_terms.specs.Pure.{PureTerm, PureAtom}
use Rattle.sym_evaluation.specs.Pure.{PureStore}
use Rattle.sym_model.specs.CoreLaws.{ProducesNarrowly}
use Rattle.sym_model.specs.Laws.{IsDecidedWithin, growth}
use Rattle.sym_model.specs.Lists.{Each, OneOf}
use Rattle.sym_model.specs.Plain.{is_list_of_texts, IsNarrowWithin, IsNarrowState, IsNarrowResult, AreNarrow}
use Rattle.sym_model.specs.Pure.{PureBranch}
use Rattle.sym_model.specs.Terms.{StateTerms}
use Rattle.sym_model.proofs.ListLaws.{each_append, each_to}
use Rattle.sym_model.proofs.Wider.{term_wider, lower_bound, higher_bound}
use Rattle.sym_states.specs.Narrowly.{IsNarrowWith, IsNarrowUse, IsNarrowItem}
use Rattle.sym_states.specs.Plainly.{item_growth}
use Rattle.sym_states.specs.Producing.{IsAskedAmong, AreArguments}
use Rattle.sym_states.specs.Pure.{PureState, PureArguments}
use Rattle.sym_states.proofs.Plainness.{decided_up, lower_more, higher_more, below_zero, above_zero}

-- narrow, with numbers from -b to b
abbrev IsNarrow : ℕ → PureTerm → Type 0
IsNarrow b t = IsNarrowWithin (neg_ℤ (pos b)) (pos b) t

pub narrow_up : (b d : ℕ) → b ≤ d → (t : PureTerm) → IsNarrow b t → IsNarrow d t
narrow_up b d le t is = (is.0, term_wider (neg_ℤ (pos b)) (pos b) (neg_ℤ (pos d)) (pos d) (lower_bound b d le) (higher_bound b d le) t is.1)

pub memory_up : (b d : ℕ) → b ≤ d → (terms : StateTerms) → IsNarrowState terms (neg_ℤ (pos b)) (pos b) → IsNarrowState terms (neg_ℤ (pos d)) (pos d)
memory_up b d le terms is = record {
  placed = each_to (IsNarrow b) (IsNarrow d) terms.placed (narrow_up b d le) is.placed;
  described = is.described;
  held = each_to (IsNarrow b) (IsNarrow d) terms.held (narrow_up b d le) is.held;
}

module _ {S : Type 0} (terms : S → StateTerms) where
  pub narrow_state_up : (b d : ℕ) → b ≤ d → (s : PureState S) → IsNarrowWith terms b s → IsNarrowWith terms d s
  narrow_state_up b d le s is = record {
    decided = each_to (IsDecidedWithin (neg_ℤ (pos b)) (pos b)) (IsDecidedWithin (neg_ℤ (pos d)) (pos d)) s.conds (decided_up b d le) is.decided;
    narrow_memory = memory_up b d le (terms s.memory) is.narrow_memory;
  }

  -- what a branch of production comes to
  pub record BranchIsNarrow (low high : ℤ) (b : PureBranch S) : Type 0 where
    pub decided : Each (IsDecidedWithin low high) b.conds
    pub memory : IsNarrowState (terms b.state) low high

  pub narrow_branches : (low high : ℤ) (bs : List (PureBranch S)) → AreNarrow terms low high bs → Each (BranchIsNarrow (low -ℤ growth) (high +ℤ growth)) bs
  narrow_branches low high bs are =
      each_to
      (λ (b : PureBranch S). Each (IsDecidedWithin (low -ℤ growth) (high +ℤ growth)) b.conds
      × (IsNarrowState (terms b.state) (low -ℤ growth) (high +ℤ growth) × IsNarrowResult (low -ℤ growth) (high +ℤ growth) b.result))
      (BranchIsNarrow (low -ℤ growth) (high +ℤ growth)) bs (λ b is. record { decided = is.0; memory = is.1.0 }) are

  -- within the bounds that are a little wider
  pub branch_up : (b : ℕ) (br : PureBranch S) → BranchIsNarrow (neg_ℤ (pos b) -ℤ growth) (pos b +ℤ growth) br → BranchIsNarrow (neg_ℤ (pos (b + item_growth))) (pos (b + item_growth)) br
  branch_up b br is =
      subst (λ (n : ℤ). BranchIsNarrow n (pos (b + item_growth)) br) (lower_more b) (subst (λ (n : ℤ). BranchIsNarrow (neg_ℤ (pos b) -ℤ growth) n br) (higher_more b) is)

-- a use of which nothing is asked
pub none_asked : (P : PureAtom → Type 0) (bs : PureStore) (b : ℕ) (u : PurePredUse) (a : PureArguments) → IsNarrowUse bs b u → AreArguments bs u a → Each P a.conds
none_asked P bs b u a narrow are = each_to (IsAskedAmong bs (u.ins ++ u.outs)) P a.conds (λ c one. absurd (narrow.nothing_asked c one)) are.asked

pub narrow_arguments : (bs : PureStore) (b : ℕ) (u : PurePredUse) (a : PureArguments) → IsNarrowUse bs b u → AreArguments bs u a → Each (IsNarrow b) (a.ins ++ a.outs)
narrow_arguments bs b u a narrow are = each_append (IsNarrow b) a.ins a.outs (narrow.narrow_ins a.ins are.ins_terms) (narrow.narrow_outs a.outs are.outs_terms)

-- an item is narrow with larger numbers too
pub item_up : (bs : PureStore) (b d : ℕ) → b ≤ d → (item : PureItem) → IsNarrowItem bs b item → IsNarrowItem bs d item
item_up bs b d le (pure e) is = absurd is
item_up bs b d le (uses u) is = record {
  of_name = is.of_name;
  nothing_asked = is.nothing_asked;
  narrow_ins = λ ts are. each_to (IsNarrow b) (IsNarrow d) ts (narrow_up b d le) (is.narrow_ins ts are);
  narrow_outs = λ ts are. each_to (IsNarrow b) (IsNarrow d) ts (narrow_up b d le) (is.narrow_outs ts are);
}
