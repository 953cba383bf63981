-- Where each path that comes of the starts is accounted for, no checked run has a fault.
use Rattle.std.proofs.Common.{◌≡◌, ⊎_elim, ℕ, zero, suc, List, [], Bool, Some, IsTrue, sym, subst}
use Rattle.gil_values.specs.Pure.{PureValue}
use Rattle.gil_syntax.specs.Evaluation.{Store}
use Rattle.gil_syntax.specs.Pure.{PureParts, PureSpec}
use Rattle.gil_machine.specs.Step.{command_at}
use Rattle.mem_model.specs.declared.keys.MemoryName.{MemoryName}
use Rattle.mem_model.specs.Actions.{Actions}
use Rattle.mem_model.specs.Heaps.{Heap}
use Rattle.checked_runs.specs.Checked.{Checked, goes_on_to, is_over, has_fault, Fault, Entry, Leads, IsReachedIn, used_by}
use Rattle.sym_model.specs.Lists.{Each}
use Rattle.sym_model.proofs.ListLaws.{one_with}
use Rattle.checked_paths.specs.Accounting.{entry_of, OfFurther, CoversStarts, IsAccounted, StandsAbove, AccountedRunsHaveNoFault}
use Rattle.checked_paths.specs.Covering.{CoversOutcome, IsCaused}
use Rattle.checked_paths.specs.Meaning.{StandsForChecked}
use Rattle.checked_paths.specs.Pure.{PureEntry, PureChecking, PureNext, further, over, caused}

same_next : (c d : Checked) → goes_on_to c ≡ goes_on_to d → c ≡ d
same_next c d is = cc

no_fault_next : (d : Checked) (fault : Fault) → has_fault fault ≡ goes_on_to d → ⊥
no_fault_next d fault is = cc

no_fault_over : (fault : Fault) → has_fault fault ≡ is_over → ⊥
no_fault_over fault is = cc

not_over : (c : Checked) → goes_on_to c ≡ is_over → ⊥
not_over c is = cc

module _ {S : Type 0} (p : PureParts) (memory : MemoryName) (m : Actions) (stands : S → List PureValue → Heap → Type 0) (above : StandsAbove stands) (e : PureEntry) (chosen : List ℕ → Bool) where
  abbrev Accounted : ℕ → PureChecking S → Type 0
  Accounted = IsAccounted p memory m stands e chosen

  -- some path that is accounted for stands for the state
  record IsStoodFor (entry : Entry) (c : Checked) : Type 0 where
    pub path : PureChecking S
    pub valuation : List PureValue
    pub steps : ℕ
    pub accounted : Accounted steps path
    pub standing : StandsForChecked stands e path valuation entry c

  module _ (entry : Entry) where
    stood_next : (n : ℕ) (v : List PureValue) (c : Checked) (k : PureNext S) → OfFurther (Accounted n) k → CoversOutcome stands e entry v (goes_on_to c) k → IsStoodFor entry c
    stood_next n v c (further x) accounted (d, (w, (is, longer, standing))) =
        record { path = x; valuation = w; steps = n; accounted = accounted; standing = subst (StandsForChecked stands e x w entry) (sym (same_next c d is)) standing }
    stood_next n v c over accounted is = absurd (not_over c is)
    stood_next n v c (caused cause) accounted is = absurd accounted

    no_fault_covered : (n : ℕ) (v : List PureValue) (fault : Fault) (k : PureNext S) → OfFurther (Accounted n) k → CoversOutcome stands e entry v (has_fault fault) k → ⊥
    no_fault_covered n v fault (further x) accounted (d, (w, (is, longer, standing))) = no_fault_next d fault is
    no_fault_covered n v fault over accounted is = no_fault_over fault is
    no_fault_covered n v fault (caused cause) accounted is = accounted

    no_cause : (n : ℕ) (k : PureNext S) → OfFurther (Accounted n) k → IsCaused k → ⊥
    no_cause n (further x) accounted is = is
    no_cause n over accounted is = is
    no_cause n (caused cause) accounted is = accounted

    leads_on : (n : ℕ) (x : PureChecking S) (v : List PureValue) (c d : Checked) → Accounted n x → StandsForChecked stands e x v entry c → Leads p memory m entry c (goes_on_to d) → IsStoodFor entry d
    leads_on zero x v c d accounted standing leads = absurd accounted
    leads_on (suc n) x v c d accounted standing leads =
        one_with (OfFurther (Accounted n)) (CoversOutcome stands e entry v (goes_on_to d)) accounted.nexts accounted.later
        (accounted.cover v entry c (goes_on_to d) standing (above e x v entry c standing) leads) (stood_next n v d)

    leads_to_no_fault : (n : ℕ) (x : PureChecking S) (v : List PureValue) (c : Checked) (fault : Fault) → Accounted n x → StandsForChecked stands e x v entry c → Leads p memory m entry c (has_fault fault) → ⊥
    leads_to_no_fault zero x v c fault accounted standing leads = accounted
    leads_to_no_fault (suc n) x v c fault accounted standing leads =
        one_with (OfFurther (Accounted n)) (CoversOutcome stands e entry v (has_fault fault)) accounted.nexts accounted.later
        (accounted.cover v entry c (has_fault fault) standing (above e x v entry c standing) leads) (no_fault_covered n v fault)

    uses_chosen : (n : ℕ) (x : PureChecking S) (v : List PureValue) (c : Checked) (used : PureSpec) → Accounted n x → StandsForChecked stands e x v entry c
        → used_by p m (command_at p c.machine.current) c.machine ≡ Some used → IsTrue (chosen used.name)
    uses_chosen zero x v c used accounted standing is = absurd accounted
    uses_chosen (suc n) x v c used accounted standing is =
        ⊎_elim (accounted.names_chosen used.name) (λ cause. absurd (one_with (OfFurther (Accounted n)) IsCaused accounted.nexts accounted.later cause (no_cause n)))
        (accounted.uses v entry c used standing is)

  module _ (n : ℕ) (starts : List (PureNext S)) (cover : CoversStarts p memory m stands e starts) (accounted : Each (OfFurther (Accounted n)) starts) (args : List PureValue) (variables : Store) where
    abbrev It : Entry
    It = entry_of e args variables

    reached : (k : ℕ) (c : Checked) → IsReachedIn p memory m It k c → IsStoodFor It c
    reached zero c is = one_with (OfFurther (Accounted n)) (CoversOutcome stands e It [] (goes_on_to c)) starts accounted (cover args variables c is) (stood_next It n [] c)
    reached (suc k) c (before, (there, leads)) =
        let so_far = reached k before there in
        leads_on It so_far.steps so_far.path so_far.valuation before c so_far.accounted so_far.standing leads

    pub none : (k : ℕ) (c : Checked) (fault : Fault) → IsReachedIn p memory m It k c → ¬ Leads p memory m It c (has_fault fault)
    none k c fault there leads =
        let is = reached k c there in
        leads_to_no_fault It is.steps is.path is.valuation c fault is.accounted is.standing leads

    pub only : (k : ℕ) (c : Checked) (used : PureSpec) → IsReachedIn p memory m It k c → used_by p m (command_at p c.machine.current) c.machine ≡ Some used → IsTrue (chosen used.name)
    only k c used there uses =
        let is = reached k c there in
        uses_chosen It is.steps is.path is.valuation c used is.accounted is.standing uses

pub accounted_runs : {S : Type 0} (memory : MemoryName) (m : Actions) (stands : S → List PureValue → Heap → Type 0) → StandsAbove stands → AccountedRunsHaveNoFault memory m stands
accounted_runs memory m stands above p e chosen n starts cover accounted = (
  (λ args variables k c fault. none p memory m stands above e chosen n starts cover accounted args variables k c fault),
  (λ args variables k c used. only p memory m stands above e chosen n starts cover accounted args variables k c used),
)
