-- Modes: items are read from left to right, and what an item reads must be known when it is reached. Modes of predicates,
-- with ins and outs, are those of Gillian, Part II (CAV 2021).
use Rattle.std.specs.Prelude.{◌≡◌, ℕ, ◌<◌, List, [], ◌∷◌, ◌++◌, Bool, true, false, not, ◌&&◌, ◌||◌, if◌then◌else◌, Option, Some, None, slice_get, ⊤, codes}
use Rattle.std.specs.List.{list_all}
use Rattle.std.specs.Option.{option_and_then}
use Rattle.std.specs.Str.{bytes_eq}
use Rattle.gil_values.specs.declared.operators.BinOp.TheVariants.{Equal}
use Rattle.gil_syntax.specs.Pure.{PureExpr, name, logical, binary_of, PurePredUse, PureItem, pure, uses, PureCommand, fold_use, unfold_use, assert_that, loop_invariant, PureProc, PureSpec, PurePredDef, PureParts}
use Rattle.gil_syntax.specs.Programs.{find_spec}
use Rattle.gil_syntax.specs.Valid.{param_names, is_among}
use Rattle.gil_syntax.specs.WellMade.{has_hash}
use Rattle.mem_model.specs.declared.keys.MemoryName.{MemoryName}
use Rattle.mem_model.specs.declared.cores.Core as cores
use Rattle.mem_model.specs.CoreNames.{core_of, has_core}
use Rattle.assert_logic.specs.declared.checking.ModeKind.{ModeKind}
use Rattle.assert_logic.specs.declared.checking.ModeKind.TheVariants.{In, Out, Core}
use Rattle.assert_logic.specs.declared.checking.ModeItem.{ModeItem}
use Rattle.assert_logic.specs.declared.checking.ModeItem.TheVariants.{Spec, Pred, Proc}
use Rattle.assert_logic.specs.Names.{Known, knows_all, named_among, named_by_items}

-- ---- core predicates

abbrev pub is_foreign_core : MemoryName → Option cores.Core → Bool
is_foreign_core memory (Some core) = not (has_core memory core)
is_foreign_core memory None = false

-- a core predicate of another memory
abbrev pub is_foreign : MemoryName → List ℕ → Bool
is_foreign memory x = is_foreign_core memory (core_of x)

-- ---- known names

-- where an assertion stands; a logic command stands in a procedure that has this specification, or none
pub data Scope : Type 0 where
  precondition : PureSpec → Scope
  postcondition : PureSpec → Scope
  case : PurePredDef → Scope
  logic_command : Option PureSpec → Scope

-- the logical variables that the precondition names
abbrev pub is_variable_of : PureSpec → List ℕ → Bool
is_variable_of s x = has_hash x && named_by_items s.pre x

-- in logic commands every name without '#' is a program variable, but for that of the result, which is known in
-- postconditions alone
abbrev pub is_program_variable : List ℕ → Bool
is_program_variable x = not (has_hash x) && not (bytes_eq x (codes "ret"))

abbrev pub is_variable_if_any : Option PureSpec → List ℕ → Bool
is_variable_if_any (Some s) x = is_variable_of s x
is_variable_if_any None x = false

-- what is known before the first item
abbrev pub known_at_first : Scope → Known
known_at_first (precondition s) x = is_among (param_names s.params) x
known_at_first (postcondition s) x = is_among (param_names s.params) x || is_variable_of s x || bytes_eq x (codes "ret")
known_at_first (case d) x = is_among (param_names d.ins) x
known_at_first (logic_command s) x = is_program_variable x || is_variable_if_any s x

-- a name that may become known by being read: a logical variable, or an out parameter in a case of its predicate
abbrev pub is_out_parameter : Scope → List ℕ → Bool
is_out_parameter (case d) x = is_among (param_names d.outs) x
is_out_parameter _ x = false

abbrev pub may_become_known : Scope → PureExpr → Bool
may_become_known scope (logical x) = true
may_become_known scope (name x) = is_out_parameter scope x
may_become_known scope _ = false

-- After an item without a fault each of its names is known. So an item knows what was known at first and the names of the
-- items before it.
abbrev pub known_after : Known → List PureItem → Known
known_after known items x = named_by_items items x || known x

abbrev pub known_beside : Known → List PureExpr → Known
known_beside known es x = named_among es x || known x

-- ---- faults

abbrev pub either : Option ModeKind → Option ModeKind → Option ModeKind
either (Some kind) later = Some kind
either None later = later

abbrev pub fault_if : Bool → ModeKind → Option ModeKind
fault_if b kind = if b then Some kind else None

-- the first fault that there is
abbrev pub first_fault : {X : Type 0} → (X → Option ModeKind) → List X → Option ModeKind
first_fault fault [] = None
first_fault fault (x ∷ xs) = either (fault x) (first_fault fault xs)

-- Outs are read from left to right after those before them: each is known throughout, or is one name that becomes known.
abbrev pub outs_fit : Scope → Known → List PureExpr → List PureExpr → Bool
outs_fit scope known before [] = true
outs_fit scope known before (out ∷ outs) =
    (knows_all (known_beside known before) out || may_become_known scope out) && outs_fit scope known (before ++ out ∷ []) outs

-- an equality with one name gives that name its value
abbrev pub gives_value : Scope → Known → PureExpr → Bool
gives_value scope known (binary_of Equal v e) = may_become_known scope v && knows_all known e
gives_value scope known _ = false

-- the fault of an item, the lowest kind that it has
abbrev pub use_fault : MemoryName → Scope → Known → PurePredUse → Option ModeKind
use_fault memory scope known u =
    either (fault_if (not (list_all (knows_all known) u.ins)) In)
    (either (fault_if (not (outs_fit scope known [] u.outs)) Out) (fault_if (is_foreign memory u.pred) Core))

abbrev pub item_fault : MemoryName → Scope → Known → PureItem → Option ModeKind
item_fault memory scope known (pure e) = fault_if (not (knows_all known e || gives_value scope known e)) In
item_fault memory scope known (uses u) = use_fault memory scope known u

-- the first fault of items, after those before them
abbrev pub items_fault : MemoryName → Scope → List PureItem → List PureItem → Option ModeKind
items_fault memory scope before [] = None
items_fault memory scope before (item ∷ items) =
    either (item_fault memory scope (known_after (known_at_first scope) before) item)
    (items_fault memory scope (before ++ item ∷ []) items)

abbrev pub assertion_fault : MemoryName → Scope → List PureItem → Option ModeKind
assertion_fault memory scope items = items_fault memory scope [] items

-- at the end of a case all out parameters are known
abbrev pub knows_outs : PurePredDef → List PureItem → Bool
knows_outs d items = list_all (known_after (known_at_first (case d)) items) (param_names d.outs)

abbrev pub case_fault : MemoryName → PurePredDef → List PureItem → Option ModeKind
case_fault memory d items = either (assertion_fault memory (case d) items) (fault_if (not (knows_outs d items)) Out)

-- in `fold` and `unfold` ins and outs are given
abbrev pub given_fault : MemoryName → Known → PurePredUse → Option ModeKind
given_fault memory known u =
    either (fault_if (not (list_all (knows_all known) u.ins)) In)
    (either (fault_if (not (list_all (knows_all known) u.outs)) Out) (fault_if (is_foreign memory u.pred) Core))

abbrev pub command_fault : MemoryName → Option PureSpec → PureCommand → Option ModeKind
command_fault memory s (fold_use u) = given_fault memory (known_at_first (logic_command s)) u
command_fault memory s (unfold_use u) = given_fault memory (known_at_first (logic_command s)) u
command_fault memory s (assert_that items) = assertion_fault memory (logic_command s) items
command_fault memory s (loop_invariant xs ps items) = assertion_fault memory (logic_command s) items
command_fault memory s _ = None

-- ---- faults of the items of a program, each the first in the order of the text

abbrev pub spec_fault : MemoryName → PureSpec → Option ModeKind
spec_fault memory s =
    either (assertion_fault memory (precondition s) s.pre)
    (either (first_fault (assertion_fault memory (postcondition s)) s.posts)
    (first_fault (assertion_fault memory (postcondition s)) s.errors))

abbrev pub pred_fault : MemoryName → PurePredDef → Option ModeKind
pred_fault memory d = first_fault (case_fault memory d) d.cases

abbrev pub proc_fault : PureParts → MemoryName → PureProc → Option ModeKind
proc_fault p memory q = first_fault (λ c. command_fault memory (find_spec p.specs q.name) c.command) q.body

abbrev pub fault_of : PureParts → MemoryName → ModeItem → Option ModeKind
fault_of p memory (Spec i) = option_and_then (spec_fault memory) (slice_get p.specs i)
fault_of p memory (Pred i) = option_and_then (pred_fault memory) (slice_get p.preds i)
fault_of p memory (Proc i) = option_and_then (proc_fault p memory) (slice_get p.procs i)

-- specifications come first, then predicates, then procedures
abbrev pub IsBefore : ModeItem → ModeItem → Type 0
IsBefore (Spec i) (Spec j) = i < j
IsBefore (Pred i) (Pred j) = i < j
IsBefore (Proc i) (Proc j) = i < j
IsBefore (Spec i) _ = ⊤
IsBefore (Pred i) (Proc j) = ⊤
IsBefore _ _ = ⊥

-- the fault that is named: that of the first item that has one
pub record IsNamedModeFault (p : PureParts) (memory : MemoryName) (kind : ModeKind) (item : ModeItem) : Type 0 where
  pub at_fault : fault_of p memory item ≡ Some kind
  pub first : (other : ModeItem) → IsBefore other item → fault_of p memory other ≡ None

-- no item has a fault of modes
abbrev pub HasModes : PureParts → MemoryName → Type 0
HasModes p memory = (item : ModeItem) → fault_of p memory item ≡ None
