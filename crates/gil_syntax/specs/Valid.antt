-- What makes a program valid: six kinds of fault that an item of it may have, and which fault is named.
-- An item is a procedure, a specification or a predicate; items are counted from 0, in that order.
use Rattle.std.specs.Prelude.{ℕ, ◌+◌, ◌-◌, ◌^◌, ◌≤◌, ℤ, pos, negsuc, int_lt, int_le, List, [], ◌∷◌, ◌++◌, map, length, take, slice_get, Bool, true, false, not, ◌&&◌, ◌||◌, nat_lt, nat_le, ◌==◌, Option, Some, None, IsTrue, codes}
use Rattle.std.specs.List.{list_any, flat_map, filter}
use Rattle.std.specs.Str.{bytes_eq}
use Rattle.std.specs.Cmp.Lexicographic.{pointwise}
use Rattle.gil_values.specs.Pure.{PureValue, integer}
use Rattle.gil_syntax.specs.declared.assertions.Param.{Param}
use Rattle.gil_syntax.specs.declared.validity.InvalidKind.{InvalidKind}
use Rattle.gil_syntax.specs.declared.validity.InvalidKind.TheVariants.{Duplicate, BadLabel, NoEnd, UnknownName, Arity, TooMany, Memory}
use Rattle.gil_syntax.specs.Pure.{PureExpr, PurePredUse, PureItem, PureCommand, assign, call, act, usym, isym, ifgoto, return, fail, throw, vanish, fold_use, unfold_use, assert_that, loop_invariant, PureNumberedCommand, PureProc, PureSpec, PurePredDef, PureParts}
use Rattle.gil_syntax.specs.Programs.{find_proc, find_spec}
use Rattle.gil_syntax.specs.Subexpressions.{logicals_of, literals_of, exprs_of_item, uses_of_item, exprs_of, uses_of, assertions_of}

pub data ProgramItem : Type 0 where
  a_proc : PureProc → ProgramItem
  a_spec : PureSpec → ProgramItem
  a_pred : PurePredDef → ProgramItem

abbrev pub items_of : PureParts → List ProgramItem
items_of p = map a_proc p.procs ++ map a_spec p.specs ++ map a_pred p.preds

abbrev pub param_names : List Param → List (List ℕ)
param_names ps = map (λ q. q.name) ps

abbrev pub is_among : List (List ℕ) → List ℕ → Bool
is_among xs x = list_any (bytes_eq x) xs

-- The core predicates and those of a program, each with its numbers of ins and outs.
pub record Signature : Type 0 where
  pub name : List ℕ
  pub ins : ℕ
  pub outs : ℕ

abbrev pub core_predicates : List Signature
core_predicates =
    record { name = codes "prop"; ins = 2; outs = 1 }
    ∷ record { name = codes "shape"; ins = 1; outs = 1 }
    ∷ record { name = codes "gone"; ins = 1; outs = 0 }
    ∷ record { name = codes "cell"; ins = 2; outs = 1 }
    ∷ record { name = codes "bound"; ins = 1; outs = 1 }
    ∷ record { name = codes "dom"; ins = 1; outs = 1 }
    ∷ record { name = codes "proto"; ins = 1; outs = 1 }
    ∷ []

abbrev pub signature_of : PurePredDef → Signature
signature_of d = record { name = d.name; ins = length d.ins; outs = length d.outs }

abbrev pub predicates_of : PureParts → List Signature
predicates_of p = core_predicates ++ map signature_of p.preds

abbrev pub is_named : List Signature → List ℕ → Bool
is_named gs x = list_any (λ g. bytes_eq g.name x) gs

-- ---- a name that stands twice

abbrev pub has_twice : List (List ℕ) → Bool
has_twice [] = false
has_twice (x ∷ xs) = is_among xs x || has_twice xs

abbrev pub lists_in_command : PureCommand → List (List (List ℕ))
lists_in_command (assign x e) = []
lists_in_command (call x e es handler) = []
lists_in_command (act x a es) = []
lists_in_command (usym x) = []
lists_in_command (isym x k) = []
lists_in_command (ifgoto e i) = []
lists_in_command (return e) = []
lists_in_command (fail e) = []
lists_in_command (throw e) = []
lists_in_command vanish = []
lists_in_command (fold_use u) = []
lists_in_command (unfold_use u) = []
lists_in_command (assert_that items) = []
lists_in_command (loop_invariant xs ps items) = xs ∷ param_names ps ∷ []

-- the lists of parameters and of variables that an item has
abbrev pub name_lists : ProgramItem → List (List (List ℕ))
name_lists (a_proc q) = q.params ∷ flat_map (λ c. lists_in_command c.command) q.body
name_lists (a_spec s) = param_names s.params ∷ param_names s.logicals ∷ []
name_lists (a_pred d) = param_names d.ins ∷ param_names d.outs ∷ param_names d.logicals ∷ []

-- of one list of the program, and of one name in it
abbrev pub same_list : ProgramItem → ProgramItem → Bool
same_list (a_proc q) (a_proc r) = true
same_list (a_spec s) (a_spec t) = true
same_list (a_pred d) (a_pred e) = true
same_list _ _ = false

abbrev pub same_name : ProgramItem → ProgramItem → Bool
same_name (a_proc q) (a_proc r) = bytes_eq q.name r.name
same_name (a_spec s) (a_spec t) = bytes_eq s.name t.name
same_name (a_pred d) (a_pred e) = bytes_eq d.name e.name
same_name _ _ = false

abbrev pub is_core_name : ProgramItem → Bool
is_core_name (a_pred d) = is_named core_predicates d.name
is_core_name _ = false

-- some list of names has a name twice. One name may stand in two lists: it then has one value.
abbrev pub some_has_twice : List (List (List ℕ)) → Bool
some_has_twice lists = list_any has_twice lists

abbrev pub is_duplicate : List ProgramItem → ProgramItem → Bool
is_duplicate before item = list_any (same_name item) before || is_core_name item || some_has_twice (name_lists item)

-- ---- labels and last commands

-- a label that is none of the numbers of so many commands
abbrev pub is_no_label : ℕ → ℤ → Bool
is_no_label n i = int_lt i (pos 0) || int_le (pos n) i

abbrev pub is_bad_handler : ℕ → Option ℤ → Bool
is_bad_handler n (Some i) = is_no_label n i
is_bad_handler n None = false

-- a jump to such a label, or a call whose handler has it
abbrev pub is_bad_jump : ℕ → PureCommand → Bool
is_bad_jump n (assign x e) = false
is_bad_jump n (call x e es handler) = is_bad_handler n handler
is_bad_jump n (act x a es) = false
is_bad_jump n (usym x) = false
is_bad_jump n (isym x k) = false
is_bad_jump n (ifgoto e i) = is_no_label n i
is_bad_jump n (return e) = false
is_bad_jump n (fail e) = false
is_bad_jump n (throw e) = false
is_bad_jump n vanish = false
is_bad_jump n (fold_use u) = false
is_bad_jump n (unfold_use u) = false
is_bad_jump n (assert_that items) = false
is_bad_jump n (loop_invariant xs ps items) = false

abbrev pub has_bad_label : ProgramItem → Bool
has_bad_label (a_proc q) = list_any (λ c. is_bad_jump (length q.body) c.command) q.body
has_bad_label _ = false

abbrev pub ends_body : PureCommand → Bool
ends_body (assign x e) = false
ends_body (call x e es handler) = false
ends_body (act x a es) = false
ends_body (usym x) = false
ends_body (isym x k) = false
ends_body (ifgoto e i) = false
ends_body (return e) = true
ends_body (fail e) = true
ends_body (throw e) = true
ends_body vanish = true
ends_body (fold_use u) = false
ends_body (unfold_use u) = false
ends_body (assert_that items) = false
ends_body (loop_invariant xs ps items) = false

abbrev pub last_ends_body : List PureNumberedCommand → Bool
last_ends_body [] = false
last_ends_body (c ∷ []) = ends_body c.command
last_ends_body (c ∷ d ∷ cs) = last_ends_body (d ∷ cs)

abbrev pub has_no_end : ProgramItem → Bool
has_no_end (a_proc q) = not (last_ends_body q.body)
has_no_end _ = false

-- ---- names that stand for nothing, and other numbers of parameters

-- a piece of an item: its expressions, its uses of predicates, and the logical variables that are declared there
pub record Piece : Type 0 where
  pub declared : List (List ℕ)
  pub exprs : List PureExpr
  pub used : List PurePredUse

abbrev pub piece_of_assertion : List Param → List PureItem → Piece
piece_of_assertion logicals items = record {
  declared = param_names logicals;
  exprs = flat_map exprs_of_item items;
  used = flat_map uses_of_item items;
}

abbrev pub logicals_of_spec : Option PureSpec → List (List ℕ)
logicals_of_spec (Some s) = param_names s.logicals
logicals_of_spec None = []

-- Logic commands of a procedure may name the variables of its specification, and an invariant its own ones too. Other
-- commands name no logical variable.
abbrev pub declared_at : List (List ℕ) → PureCommand → List (List ℕ)
declared_at logicals (assign x e) = []
declared_at logicals (call x e es handler) = []
declared_at logicals (act x a es) = []
declared_at logicals (usym x) = []
declared_at logicals (isym x k) = []
declared_at logicals (ifgoto e i) = []
declared_at logicals (return e) = []
declared_at logicals (fail e) = []
declared_at logicals (throw e) = []
declared_at logicals vanish = []
declared_at logicals (fold_use u) = logicals
declared_at logicals (unfold_use u) = logicals
declared_at logicals (assert_that items) = logicals
declared_at logicals (loop_invariant xs ps items) = logicals ++ param_names ps

abbrev pub piece_of_command : List (List ℕ) → PureCommand → Piece
piece_of_command logicals c = record { declared = declared_at logicals c; exprs = exprs_of c; used = uses_of c }

abbrev pub pieces_of : PureParts → ProgramItem → List Piece
pieces_of p (a_proc q) = map (λ c. piece_of_command (logicals_of_spec (find_spec p.specs q.name)) c.command) q.body
pieces_of p (a_spec s) = map (piece_of_assertion s.logicals) (assertions_of s)
pieces_of p (a_pred d) = map (piece_of_assertion d.logicals) d.cases

abbrev pub names_undeclared : Piece → Bool
names_undeclared c = list_any (λ e. list_any (λ x. not (is_among c.declared x)) (logicals_of e)) c.exprs

-- a predicate that none of these is
abbrev pub uses_unknown : List Signature → Piece → Bool
uses_unknown gs c = list_any (λ u. not (is_named gs u.pred)) c.used

-- some piece names what stands for nothing, where these are the predicates
abbrev pub some_names_nothing : List Signature → List Piece → Bool
some_names_nothing gs pieces = list_any (λ c. names_undeclared c || uses_unknown gs c) pieces

abbrev pub is_of_no_procedure : PureParts → ProgramItem → Bool
is_of_no_procedure p (a_spec s) = not (is_among (map (λ q. q.name) p.procs) s.name)
is_of_no_procedure p _ = false

abbrev pub has_unknown_name : PureParts → ProgramItem → Bool
has_unknown_name p item = is_of_no_procedure p item || some_names_nothing (predicates_of p) (pieces_of p item)

abbrev pub fits : PurePredUse → Signature → Bool
fits u g = bytes_eq g.name u.pred && g.ins == length u.ins && g.outs == length u.outs

-- one of these predicates with other numbers of ins and outs
abbrev pub misuses : List Signature → PurePredUse → Bool
misuses gs u = is_named gs u.pred && not (list_any (fits u) gs)

abbrev pub some_misuses : List Signature → List Piece → Bool
some_misuses gs pieces = list_any (λ c. list_any (misuses gs) c.used) pieces

abbrev pub differs_from : Option PureProc → PureSpec → Bool
differs_from (Some q) s = not (pointwise bytes_eq q.params (param_names s.params))
differs_from None s = false

abbrev pub has_other_params : PureParts → ProgramItem → Bool
has_other_params p (a_spec s) = differs_from (find_proc p.procs s.name) s
has_other_params p _ = false

abbrev pub has_wrong_arity : PureParts → ProgramItem → Bool
has_wrong_arity p item = has_other_params p item || some_misuses (predicates_of p) (pieces_of p item)

-- ---- limits

-- of procedures, of specifications, of predicates, and of the commands of one procedure
abbrev pub most_items : ℕ
most_items = 1000

-- of the parameters of one procedure or predicate, and of the logical variables of one specification, predicate or
-- invariant
abbrev pub most_params : ℕ
most_params = 64

-- a literal is from -2^63 to 2^63 - 1
abbrev pub is_wide : PureValue → Bool
is_wide (integer n) = int_lt n (negsuc (2 ^ 63 - 1)) || int_le (pos (2 ^ 63)) n
is_wide _ = false

abbrev pub has_many_variables : PureCommand → Bool
has_many_variables (assign x e) = false
has_many_variables (call x e es handler) = false
has_many_variables (act x a es) = false
has_many_variables (usym x) = false
has_many_variables (isym x k) = false
has_many_variables (ifgoto e i) = false
has_many_variables (return e) = false
has_many_variables (fail e) = false
has_many_variables (throw e) = false
has_many_variables vanish = false
has_many_variables (fold_use u) = false
has_many_variables (unfold_use u) = false
has_many_variables (assert_that items) = false
has_many_variables (loop_invariant xs ps items) = nat_lt most_params (length ps)

abbrev pub has_many_commands : ProgramItem → Bool
has_many_commands (a_proc q) = nat_lt most_items (length q.body)
has_many_commands _ = false

-- more parameters or more variables than there may be
abbrev pub has_many_names : ProgramItem → Bool
has_many_names (a_proc q) = nat_lt most_params (length q.params) || list_any (λ c. has_many_variables c.command) q.body
has_many_names (a_spec s) = nat_lt most_params (length s.logicals)
has_many_names (a_pred d) = nat_lt most_params (length d.ins + length d.outs) || nat_lt most_params (length d.logicals)

abbrev pub is_large : ProgramItem → Bool
is_large item = has_many_commands item || has_many_names item

abbrev pub some_has_wide_literal : List Piece → Bool
some_has_wide_literal pieces = list_any (λ c. list_any (λ e. list_any is_wide (literals_of e)) c.exprs) pieces

abbrev pub has_wide_literal : PureParts → ProgramItem → Bool
has_wide_literal p item = some_has_wide_literal (pieces_of p item)

-- a list of more items than the limit is a fault at the item that is one too many
abbrev pub is_too_many : PureParts → List ProgramItem → ProgramItem → Bool
is_too_many p before item = nat_le most_items (length (filter (same_list item) before)) || is_large item || has_wide_literal p item

-- ---- faults

abbrev pub has_fault : InvalidKind → PureParts → List ProgramItem → ProgramItem → Bool
has_fault Duplicate p before item = is_duplicate before item
has_fault BadLabel p before item = has_bad_label item
has_fault NoEnd p before item = has_no_end item
has_fault UnknownName p before item = has_unknown_name p item
has_fault Arity p before item = has_wrong_arity p item
has_fault TooMany p before item = is_too_many p before item
has_fault Memory p before item = false

abbrev pub has_fault_if_there : InvalidKind → PureParts → List ProgramItem → Option ProgramItem → Bool
has_fault_if_there kind p before (Some item) = has_fault kind p before item
has_fault_if_there kind p before None = false

-- whether the item with this number has a fault of this kind
abbrev pub fault_at : PureParts → InvalidKind → ℕ → Bool
fault_at p kind i = has_fault_if_there kind p (take i (items_of p)) (slice_get (items_of p) i)

abbrev pub IsAtFault : PureParts → InvalidKind → ℕ → Type 0
IsAtFault p kind i = IsTrue (fault_at p kind i)

abbrev pub rank : InvalidKind → ℕ
rank Duplicate = 1
rank BadLabel = 2
rank NoEnd = 3
rank UnknownName = 4
rank Arity = 5
rank TooMany = 6
rank Memory = 7

-- the fault that is named: of the lowest kind that there is, at the first item that has it
pub record IsNamedFault (p : PureParts) (kind : InvalidKind) (i : ℕ) : Type 0 where
  pub at_fault : IsAtFault p kind i
  pub lowest : (k : InvalidKind) (j : ℕ) → IsAtFault p k j → rank kind ≤ rank k
  pub first : (j : ℕ) → IsAtFault p kind j → i ≤ j

-- a valid program: no item has a fault
abbrev pub IsValid : PureParts → Type 0
IsValid p = (kind : InvalidKind) (i : ℕ) → ¬ IsAtFault p kind i
