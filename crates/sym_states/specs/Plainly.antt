-- Plain states: their conditions are decided, their memory is plain, and they have no facts. Adding plain items leaves them plain.
use Rattle.std.specs.Prelude.{◌≡◌, ℕ, ◌+◌, ◌*◌, ◌≤◌, ℤ, pos, neg_ℤ, ◌-ℤ◌, ◌+ℤ◌, List, [], length, IsTrue, codes}
use Rattle.std.specs.Str.{bytes_eq}
use Rattle.gil_syntax.specs.Pure.{PurePredUse, PureItem}
use Rattle.mem_model.specs.declared.keys.MemoryName.{MemoryName}
use Rattle.sym_evaluation.specs.Plainly.{IsPlain, text_bound}
use Rattle.sym_evaluation.specs.Pure.{PureStore}
use Rattle.sym_model.specs.CoreLaws.{ArePlainUses}
use Rattle.sym_model.specs.Laws.{IsDecidedWithin, growth}
use Rattle.sym_model.specs.Lists.{Each}
use Rattle.sym_model.specs.Plain.{IsPlainState}
use Rattle.sym_model.specs.Pure.{PureBranch}
use Rattle.sym_model.specs.Terms.{StateTerms, is_literal}
use Rattle.sym_paths.specs.PlainLaws.{IsPlainOver}
use Rattle.sym_paths.specs.Plain.{IsPlainItem}
use Rattle.sym_states.specs.Pure.{PureState, PureArguments}

-- A state that is plain with numbers up to b: each condition has a form of the fragment, the memory is plain, and there is no fact.
pub record IsPlainWith {S : Type 0} (memory : MemoryName) (terms : S → StateTerms) (b : ℕ) (s : PureState S) : Type 0 where
  pub decided : Each (IsDecidedWithin (neg_ℤ (pos b)) (pos b)) s.conds
  pub plain_memory : IsPlainState memory (terms s.memory) (neg_ℤ (pos b)) (pos b)
  pub no_facts : s.facts ≡ []

-- what each item may add to the numbers
abbrev pub item_growth : ℕ
item_growth = 10000

-- ---- one item

-- the arguments ask nothing, and their terms are plain; `bound` has a literal
pub record ArePlainArguments (u : PurePredUse) (b : ℕ) (a : PureArguments) : Type 0 where
  pub nothing_asked : Each (λ c. ⊥) a.conds
  pub plain_ins : Each (IsPlain b) a.ins
  pub plain_outs : Each (IsPlain b) a.outs
  pub literal_bound : IsTrue (bytes_eq u.pred (codes "bound")) → Each (λ t. IsTrue (is_literal t)) a.outs

-- from a plain state and plain arguments, production comes to plain states, on decided conditions
abbrev pub ProducesPlainStates : {S : Type 0} → MemoryName → (S → StateTerms) → List ℕ → PureArguments → S → List (PureBranch S) → Type 0
ProducesPlainStates memory terms core a s bs =
    (low high : ℤ) → IsPlainState memory (terms s) low high → ArePlainUses core a.ins a.outs low high
    → Each (λ b. Each (IsDecidedWithin (low -ℤ growth) (high +ℤ growth)) b.conds
    × IsPlainState memory (terms b.state) (low -ℤ growth) (high +ℤ growth)) bs

-- From a plain state, under a plain store, adding the plain item has come to a plain one.
abbrev pub StaysPlain : {S : Type 0} → MemoryName → (S → StateTerms) → PureStore → PureItem → PureState S → PureState S → Type 0
StaysPlain memory terms bs item s r =
    (b c : ℕ) → IsPlainItem item → IsPlainOver s.vars c bs → c + text_bound ≤ b → IsPlainWith memory terms b s
    → IsPlainWith memory terms (b + item_growth) r

-- ---- all items

-- From a plain state, under a plain store, adding plain items comes to plain states: so no literal form is needed.
abbrev pub StayPlain : {S : Type 0} → MemoryName → (S → StateTerms) → PureStore → List PureItem → PureState S → List (PureState S) → Type 0
StayPlain memory terms bs items s rs =
    (b c : ℕ) → Each IsPlainItem items → IsPlainOver s.vars c bs → c + text_bound ≤ b → IsPlainWith memory terms b s
    → Each (IsPlainWith memory terms (b + length items * item_growth)) rs
