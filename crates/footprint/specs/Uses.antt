-- Matching uses with facts, on values and on terms.
use Rattle.std.specs.Prelude.{◌≡◌, ℕ, List, [], ◌∷◌, ◌++◌, ◌+◌, length, remove, slice_get, Option, Some, None, Result, Ok, ⊤}
use Rattle.gil_values.specs.Operators.{Fault}
use Rattle.gil_values.specs.Pure.{PureValue}
use Rattle.gil_syntax.specs.declared.assertions.Param.{Param}
use Rattle.gil_syntax.specs.Evaluation.{Store, Outcomes, evaluate_all}
use Rattle.gil_syntax.specs.Pure.{PureExpr, PurePredUse, uses}
use Rattle.mem_model.specs.Heaps.{Heap}
use Rattle.assert_logic.specs.LogicStates.{LogicState}
use Rattle.assert_logic.specs.Matching.{FoundFact, first_fact, fits_fact, known_outs, match_values}
use Rattle.pure_terms.specs.declared.variables.Sort.{Sort}
use Rattle.pure_terms.specs.Meaning.{IsOver}
use Rattle.pure_terms.specs.Pure.{PureTerm, PureAtom, term_of}
use Rattle.sym_evaluation.specs.Meaning.{HaveValues, IsStoreOver, Serves as StoreServes}
use Rattle.sym_evaluation.specs.Plainly.{IsPlain, text_bound}
use Rattle.sym_evaluation.specs.Pure.{PureStore, PureGoodCase}
use Rattle.sym_paths.specs.PlainLaws.{IsPlainOver}
use Rattle.sym_paths.specs.Plain.{IsPlainItem}
use Rattle.sym_matching.specs.Meaning.{SaysSplit, AreOuts, AreOutsOver}
use Rattle.sym_matching.specs.Plainly.{IsSplitDecided}
use Rattle.sym_matching.specs.Pure.{PureSplit, PureOuts}
use Rattle.sym_model.specs.Lists.{Each}
use Rattle.sym_model.specs.Terms.{StateTerms, AreEachOver}
use Rattle.sym_states.specs.Meaning.{Serves}
use Rattle.sym_states.specs.Pure.{PureFact, PureState}
use Rattle.footprint.specs.Choosing.{PureFactCase}
use Rattle.footprint.specs.Items.{SpreadsValues}
use Rattle.footprint.specs.Pure.{PureLeaves}
use Rattle.footprint.specs.Spreading.{no_leaves, with_conds, IsSameMemory, IsCopyUnder}

-- ---- the terms of a use

pub record PureAsked : Type 0 where
  pub ins : List PureTerm
  pub known : PureOuts

abbrev pub both_asked : Option (PureGoodCase (List PureTerm)) → Option (PureGoodCase PureOuts) → Option (PureGoodCase PureAsked)
both_asked (Some g) (Some h) = Some (record { conds = g.conds ++ h.conds; result = record { ins = g.result; known = h.result } })
both_asked _ _ = None

-- the values of the ins, and those of the outs that are known
abbrev pub AskedValues : Type 0
AskedValues = List PureValue × List (Option PureValue)

abbrev pub asked_values : Outcomes → Result (List (Option PureValue)) Fault → Option AskedValues
asked_values (Ok ws) (Ok os) = Some (ws, os)
asked_values _ _ = None

abbrev pub AreAsked : List PureValue → PureAsked → AskedValues → Type 0
AreAsked v a x = HaveValues v a.ins x.0 × AreOuts v a.known x.1

abbrev pub SplitsUse : PureStore → PurePredUse → PureSplit PureAsked → Type 0
SplitsUse bs u x =
    (vars : List Sort) (v : List PureValue) (t : Store) → StoreServes vars v bs t
    → SaysSplit v (AreAsked v) x (asked_values (evaluate_all u.ins t) (known_outs t u.outs))

-- what is asked names only variables of the table
abbrev pub IsAskedOver : List Sort → Option (PureGoodCase PureAsked) → Type 0
IsAskedOver vars None = Unit {0}
IsAskedOver vars (Some g) = Each (λ a. IsOver vars (term_of a)) g.conds × AreEachOver vars g.result.ins × AreOutsOver vars g.result.known

abbrev pub UseStaysOver : PureStore → PureSplit PureAsked → Type 0
UseStaysOver bs x =
    (vars : List Sort) → IsStoreOver vars bs → IsAskedOver vars x.found × Each (λ conds. Each (λ a. IsOver vars (term_of a)) conds) x.none

-- Of a plain use in a plain store each condition is decided, and the terms of its ins are plain.
abbrev pub UseStaysPlain : PureStore → PurePredUse → PureSplit PureAsked → Type 0
UseStaysPlain bs u x =
    (vars : List Sort) (b : ℕ) → IsPlainOver vars b bs → IsPlainItem (uses u)
    → IsSplitDecided (λ a. Each (IsPlain (b + text_bound)) a.ins) (b + text_bound) x

-- there are as many terms as ins
abbrev pub HasAllIns : PurePredUse → Option (PureGoodCase PureAsked) → Type 0
HasAllIns u None = Unit {0}
HasAllIns u (Some g) = length g.result.ins ≡ length u.ins

-- a state, and the values of what is asked
pub record AsksUse {S : Type 0} (stands : S → List PureValue → Heap → Type 0) (terms : S → StateTerms) (s : PureState S) (bs : PureStore)
    (a : PureAsked) (v : List PureValue) (t : Store) (l : LogicState) : Type 0 where
  pub serves : Serves stands terms s bs v t l
  pub values : AskedValues
  pub are : AreAsked v a values

-- ---- facts

-- the first fact that fits is taken, and its outs are matched, or not
pub record FactGives (scope : List Param) (u : PurePredUse) (a : PureAsked) (v : List PureValue) (t : Store) (l : LogicState) (t' : Store)
    (l' : LogicState) : Type 0 where
  pub values : AskedValues
  pub are : AreAsked v a values
  pub found : FoundFact
  pub first : first_fact (fits_fact u.pred values.0 values.1) l.facts ≡ Some found
  pub matched : match_values scope u.outs found.fact.outs t ≡ Some t'
  pub left : l' ≡ record l { facts = found.others }

pub record FactStops (n : ℕ) (scope : List Param) (u : PurePredUse) (a : PureAsked) (v : List PureValue) (t : Store) (l : LogicState) (k : ℕ)
    : Type 0 where
  pub number : k ≡ n
  pub values : AskedValues
  pub are : AreAsked v a values
  pub found : FoundFact
  pub first : first_fact (fits_fact u.pred values.0 values.1) l.facts ≡ Some found
  pub unmatched : match_values scope u.outs found.fact.outs t ≡ None

-- the state without the fact
pub record IsWithoutFact {S : Type 0} (stands : S → List PureValue → Heap → Type 0) (terms : S → StateTerms) (kept : S → Type 0)
    (s : PureState S) (c : PureFactCase) (r : PureState S) : Type 0 where
  pub is : r ≡ record (with_conds s c.conds) { memory = r.memory; facts = remove s.facts c.place }
  pub memory : IsSameMemory stands terms kept s.memory r.memory

module _ {S : Type 0} (stands : S → List PureValue → Heap → Type 0) (terms : S → StateTerms) (kept : S → Type 0) where
  abbrev pub TakesFactAt : ℕ → List Param → List PureExpr → PureStore → PureState S → PureFactCase → Option PureFact → PureLeaves S → Type 0
  TakesFactAt n scope es bs s c (Some fact) leaves =
      (r : PureState S) × (IsWithoutFact stands terms kept s c r × SpreadsValues n scope es bs r fact.outs leaves)
  TakesFactAt n scope es bs s c None leaves = leaves ≡ no_leaves

  abbrev pub TakesFact : ℕ → List Param → List PureExpr → PureStore → PureState S → PureFactCase → PureLeaves S → Type 0
  TakesFact n scope es bs s c leaves = TakesFactAt n scope es bs s c (slice_get s.facts c.place) leaves

  -- a copy of the state under each of the alternatives
  abbrev pub AreCopiesUnder : PureState S → List (List PureAtom) → List (PureState S) → Type 0
  AreCopiesUnder s [] [] = ⊤
  AreCopiesUnder s (more ∷ alts) (r ∷ rs) = IsCopyUnder stands terms kept s more r × AreCopiesUnder s alts rs
  AreCopiesUnder s _ _ = ⊥
