-- Where each path that comes of the starts is accounted for within the bound, no checked run is cut.
use Rattle.std.proofs.Common.{◌≡◌, ℕ, zero, suc, ◌+◌, List, [], Bool, sym, subst, arith}
use Rattle.gil_values.specs.Pure.{PureValue}
use Rattle.gil_syntax.specs.Evaluation.{Store}
use Rattle.gil_syntax.specs.Pure.{PureParts}
use Rattle.mem_model.specs.declared.keys.MemoryName.{MemoryName}
use Rattle.mem_model.specs.Actions.{Actions}
use Rattle.mem_model.specs.Heaps.{Heap}
use Rattle.checked_runs.specs.Checked.{Checked, goes_on_to, is_over, Entry, Leads, IsReachedIn}
use Rattle.sym_model.specs.Lists.{Each}
use Rattle.sym_model.proofs.ListLaws.{one_with}
use Rattle.checked_paths.specs.Accounting.{entry_of, OfFurther, CoversStarts, IsAccounted, StandsAbove}
use Rattle.checked_paths.specs.Covering.{CoversOutcome}
use Rattle.checked_paths.specs.Meaning.{StandsForChecked}
use Rattle.checked_paths.specs.Pure.{PureEntry, PureChecking, PureNext, further, over, caused}
use Rattle.spec_exploration.specs.Ending.{NoneIsCut}

same_next : (c d : Checked) → goes_on_to c ≡ goes_on_to d → c ≡ d
same_next c d is = cc

not_over : (c : Checked) → goes_on_to c ≡ is_over → ⊥
not_over c is = cc

module _ {S : Type 0} (p : PureParts) (memory : MemoryName) (m : Actions) (stands : S → List PureValue → Heap → Type 0) (above : StandsAbove stands) (e : PureEntry) (chosen : List ℕ → Bool) where
  abbrev Accounted : ℕ → PureChecking S → Type 0
  Accounted = IsAccounted p memory m stands e chosen

  -- some path of which nothing is left within so many steps stands for the state
  record IsStoodWithin (n : ℕ) (entry : Entry) (c : Checked) : Type 0 where
    path : PureChecking S
    valuation : List PureValue
    accounted : Accounted n path
    standing : StandsForChecked stands e path valuation entry c

  module _ (entry : Entry) where
    stood_next : (n : ℕ) (v : List PureValue) (c : Checked) (k : PureNext S) → OfFurther (Accounted n) k → CoversOutcome stands e entry v (goes_on_to c) k → IsStoodWithin n entry c
    stood_next n v c (further x) accounted (d, (w, (is, longer, standing))) =
        record { path = x; valuation = w; accounted = accounted; standing = subst (StandsForChecked stands e x w entry) (sym (same_next c d is)) standing }
    stood_next n v c over accounted is = absurd (not_over c is)
    stood_next n v c (caused cause) accounted is = absurd accounted

    leads_on : (n : ℕ) (c d : Checked) → IsStoodWithin (suc n) entry c → Leads p memory m entry c (goes_on_to d) → IsStoodWithin n entry d
    leads_on n c d stood leads =
        one_with (OfFurther (Accounted n)) (CoversOutcome stands e entry stood.valuation (goes_on_to d)) stood.accounted.nexts stood.accounted.later
        (stood.accounted.cover stood.valuation entry c (goes_on_to d) stood.standing (above e stood.path stood.valuation entry c stood.standing) leads) (stood_next n stood.valuation d)

  module _ (n : ℕ) (starts : List (PureNext S)) (cover : CoversStarts p memory m stands e starts) (accounted : Each (OfFurther (Accounted n)) starts) (args : List PureValue) (variables : Store) where
    abbrev It : Entry
    It = entry_of e args variables

    stood_after : (k rest : ℕ) (c : Checked) → n ≡ k + rest → IsReachedIn p memory m It k c → IsStoodWithin rest It c
    stood_after zero rest c many is =
        let all : n ≡ rest = omega (arith, many) in
        subst (λ i. IsStoodWithin i It c) all (one_with (OfFurther (Accounted n)) (CoversOutcome stands e It [] (goes_on_to c)) starts accounted (cover args variables c is) (stood_next It n [] c))
    stood_after (suc k) rest c many (before, (there, leads)) = leads_on It rest before c (stood_after k (suc rest) before (omega (arith, many)) there) leads

    nothing_left : (c : Checked) → IsStoodWithin zero It c → ⊥
    nothing_left c stood = stood.accounted

    not_under_way : (c : Checked) → ¬ IsReachedIn p memory m It n c
    not_under_way c there = nothing_left c (stood_after n zero c (omega arith) there)

pub accounted_runs_end : {S : Type 0} (p : PureParts) (memory : MemoryName) (m : Actions) (stands : S → List PureValue → Heap → Type 0) → StandsAbove stands → (e : PureEntry) (chosen : List ℕ → Bool) (n : ℕ) (starts : List (PureNext S))
    → CoversStarts p memory m stands e starts → Each (OfFurther (IsAccounted p memory m stands e chosen n)) starts → NoneIsCut p memory m n e.spec
accounted_runs_end p memory m stands above e chosen n starts cover accounted args variables c = not_under_way p memory m stands above e chosen n starts cover accounted args variables c
