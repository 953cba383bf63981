-- Where the conditions of beginnings come from: from the items of the precondition, which are added one after another to nothing.
use Rattle.std.specs.Prelude.{◌≡◌, ◌⊎◌, List, [], ◌∷◌, ◌++◌, Option, Some, None, IsTrue}
use Rattle.gil_values.specs.Pure.{PureValue}
use Rattle.gil_syntax.specs.Evaluation.{Store}
use Rattle.gil_syntax.specs.Pure.{PurePredUse, PureItem, pure, uses, PureSpec}
use Rattle.mem_model.specs.declared.cores.Core.{Core}
use Rattle.mem_model.specs.CoreNames.{core_of}
use Rattle.checked_runs.specs.Specifications.{entry_store}
use Rattle.pure_terms.specs.declared.variables.Sort.{Sort}
use Rattle.pure_terms.specs.Meaning.{IsProper}
use Rattle.pure_terms.specs.Pure.{PureTerm, PureAtom}
use Rattle.sym_evaluation.specs.Meaning.{HaveValues, StandsFor}
use Rattle.sym_evaluation.specs.Pure.{PureStore}
use Rattle.sym_model.specs.Lists.{Each}
use Rattle.sym_model.specs.Meaning.{has_open}
use Rattle.sym_model.specs.Terms.{StateTerms, no_state_terms}
use Rattle.sym_states.specs.Producing.{IsOwnTo, IsMemoryMade}
use Rattle.sym_beginning.specs.Beginning.{PureStart, PureBeginnings}

-- ---- items

-- what the terms of a memory are after a use was added: a core predicate brings terms of its arguments, and a fact none
abbrev pub AreTermsAfterUse : PureStore → PurePredUse → Option Core → StateTerms → StateTerms → Type 0
AreTermsAfterUse bs u (Some core) before after = IsMemoryMade bs u before after
AreTermsAfterUse bs u None before after = after ≡ before

abbrev pub AreTermsAfter : PureStore → PureItem → StateTerms → StateTerms → Type 0
AreTermsAfter bs (pure e) before after = after ≡ before
AreTermsAfter bs (uses u) before after = AreTermsAfterUse bs u (core_of u.pred) before after

-- Conditions that come of adding these items, under a store of terms, to a memory without terms: each is one that its item may ask. The
-- memory has these terms then.
pub data ComeOfItems (bs : PureStore) : List PureItem → StateTerms → List PureAtom → Type 0 where
  of_none : ComeOfItems bs [] no_state_terms []
  of_one_more : (items : List PureItem) (item : PureItem) (before after : StateTerms) (conds more : List PureAtom)
      → ComeOfItems bs items before conds → Each (IsOwnTo bs item before) more → AreTermsAfter bs item before after
      → ComeOfItems bs (items ++ item ∷ []) after (conds ++ more)

-- ---- preconditions

module _ (s : PureSpec) (vars : List Sort) (args : List PureTerm) (variables : PureStore) where
  -- Under each valuation the store of terms stands for the values of the entry, by their names.
  abbrev pub AreEntryNames : PureStore → Type 0
  AreEntryNames bs =
      (v ws : List PureValue) (t : Store) → IsProper vars v → HaveValues v args ws → StandsFor v variables t
      → StandsFor v bs (entry_store s ws t)

  -- The conditions come of adding these items, which speak of the values of the entry.
  pub record ComeOf (items : List PureItem) (conds : List PureAtom) : Type 0 where
    pub names : PureStore
    pub are_names : AreEntryNames names
    pub made : StateTerms
    pub come : ComeOfItems names items made conds

  -- They come of adding the first items of the precondition, and one of them is that a literal form is needed.
  pub record NeedForm (conds : List PureAtom) : Type 0 where
    pub items : List PureItem
    pub later : List PureItem
    pub are_first : s.pre ≡ items ++ later
    pub come : ComeOf items conds
    pub needed : IsTrue (has_open conds)

-- ---- beginnings

-- the conditions of a beginning come of adding the whole precondition, or as far as to where a literal form is needed
abbrev pub IsOfPrecondition : {S : Type 0} → PureBeginnings S → PureSpec → PureStart S → Type 0
IsOfPrecondition b s start =
    ComeOf s start.path.vars b.args b.variables s.pre start.path.conds ⊎ NeedForm s start.path.vars b.args b.variables start.path.conds

abbrev pub AreOfPrecondition : {S : Type 0} → PureBeginnings S → PureSpec → Type 0
AreOfPrecondition b s = Each (IsOfPrecondition b s) b.starts
