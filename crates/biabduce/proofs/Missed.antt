-- A key that a path over new symbols misses: it is one of the memory, and its location is a symbol that the run took.
use Rattle.std.proofs.Common.{◌≡◌, ℕ, ℤ, List, Bool, true, false, ◌&&◌, not, Option, Some, None, Ok, Err, slice_get, refl, sym, ap, subst, ◌∙◌, true≢false}
use Rattle.std.specs.Cmp.{second_so}
use Rattle.std.specs.List.{list_all}
use Rattle.std.specs.Option.{option_and_then, option_map}
use Rattle.std.proofs.lemmas.Bool.{and_parts}
use Rattle.gil_values.specs.Pure.{PureValue, integer, boolean, text, symbol, kind, procedure, list, from_list}
use Rattle.gil_syntax.specs.Evaluation.{Outcomes, evaluate_all}
use Rattle.gil_syntax.specs.Programs.{find_proc}
use Rattle.gil_syntax.specs.Pure.{PureCommand, PureExpr, assign, call, act, usym, isym, ifgoto, return, fail, throw, vanish, fold_use, unfold_use, assert_that, loop_invariant, PureNumberedCommand, PureParts}
use Rattle.gil_syntax.specs.Subexpressions.{exprs_of}
use Rattle.gil_syntax.specs.WellMade.{is_well_made_expr, has_well_made_names, is_well_made}
use Rattle.gil_machine.specs.Choices.{of_values, missed_key, result_of, miss_at}
use Rattle.gil_machine.specs.Laws.{handed}
use Rattle.gil_machine.specs.Proper.{IsProperState}
use Rattle.gil_machine.specs.State.{State}
use Rattle.gil_machine.specs.Step.{action_result, command_at}
use Rattle.gil_machine.proofs.Proper.{MadeCommand, command_made, find_made, procs_made, may_act_where_reached}
use Rattle.mem_model.specs.declared.cores.Core.{Core}
use Rattle.mem_model.specs.declared.keys.Key.{Key}
use Rattle.mem_model.specs.declared.keys.MemoryName.{MemoryName}
use Rattle.mem_model.specs.declared.keys.MemoryName.TheVariants.{Record, Block, Object}
use Rattle.mem_model.specs.declared.keys.Sub.{Sub}
use Rattle.mem_model.specs.declared.keys.Sub.TheVariants.{Name, At, Shape, Bound, Dom, Proto, Gone}
use Rattle.mem_model.specs.Actions.{Actions, ActionResult, MayAct, MissesWhatLacks}
use Rattle.mem_model.specs.CoreNames.{has_core}
use Rattle.mem_model.specs.Keys.{has_subkey}
use Rattle.pure_terms.specs.declared.literals.Literal.{Literal}
use Rattle.pure_terms.specs.declared.variables.Sort.{Sort}
use Rattle.pure_terms.specs.declared.variables.Var.{Var}
use Rattle.pure_terms.specs.EqualityLaws.{same_sorts}
use Rattle.pure_terms.specs.Fragment.{is_integer_literal, is_variable_of, is_shift, is_simple, names_sort, is_plain}
use Rattle.pure_terms.specs.Kinds.{same_sort}
use Rattle.pure_terms.specs.Meaning.{value, values, IsOver}
use Rattle.pure_terms.specs.Pure.{PureTerm, literal, variable, list_of, unary_of, binary_of, variables}
use Rattle.pure_terms.proofs.KindLaws.{over_left, over_variable}
use Rattle.pure_terms.proofs.SimpleLaws.{from_is_variable_of}
use Rattle.sym_model.specs.Cores.{IsSubOf}
use Rattle.sym_model.specs.Meaning.{location_of, name_of, cell_of, sub_value, key_of, key_value}
use Rattle.sym_model.specs.Pure.{PureSub, named, cell, shape, bound, dom, proto, gone, PureKey}
use Rattle.sym_model.proofs.ListLaws.{same_some, not_none}
use Rattle.bi_beginnings.specs.Fixing.{IsKeyAtNewSymbol}
use Rattle.bi_beginnings.proofs.Params.{all_at}
use Rattle.biabduce.proofs.Beside.{miss_is}

-- ---- locations

module _ (vars : List Sort) (fresh : list_all (same_sort Sort.Fresh) vars ≡ true) (v : List PureValue) where
  -- the term is a variable for a symbol that was taken
  abbrev IsNewSymbol : PureTerm → Type 0
  IsNewSymbol t = (x : Var) × ((t ≡ variable x) × (slice_get vars x.number ≡ Some Sort.Fresh))

  sort_fresh : (i : ℕ) (s : Sort) → slice_get vars i ≡ Some s → Sort.Fresh ≡ s
  sort_fresh i s at = same_sorts Sort.Fresh s (all_at (same_sort Sort.Fresh) vars i s at fresh)

  no_literal : (l : Literal) (n : ℕ) → location_of (value v (literal l)) ≡ Some n → ⊥
  no_literal (Literal.Int i) n at = not_none at
  no_literal (Literal.Bool b) n at = not_none at
  no_literal (Literal.Str cs) n at = not_none at
  no_literal (Literal.Kind k) n at = not_none at
  no_literal (Literal.Proc name) n at = not_none at

  no_list : (o : Option (List PureValue)) (n : ℕ) → location_of (option_map (λ ws. list (from_list ws)) o) ≡ Some n → ⊥
  no_list (Some ws) n at = not_none at
  no_list None n at = not_none at

  -- a plain term over new symbols that has the value of a location
  plain_location : (t : PureTerm) (n : ℕ) → is_simple t ≡ true → IsOver vars t → location_of (value v t) ≡ Some n → IsNewSymbol t
  plain_location (literal l) n simple over at = absurd (no_literal l n at)
  plain_location (variable x) n simple over at =
      let there = over_variable vars x over in
      (x, (refl, there ∙ ap Some (sym (sort_fresh x.number x.sort there))))
  plain_location (list_of ts) n simple over at = absurd (no_list (values v ts) n at)
  plain_location (unary_of op t) n simple over at = absurd (true≢false (sym simple))
  plain_location (binary_of op s t) n simple over at =
      let parts = and_parts (is_shift op) (is_variable_of Sort.Int s && is_integer_literal t) simple in
      let (x, (is, sort)) = from_is_variable_of Sort.Int s (and_parts (is_variable_of Sort.Int s) (is_integer_literal t) parts.1).0 in
      let there = over_variable vars x (subst (IsOver vars) is (over_left vars (variables s) (variables t) over)) in
      absurd (not_int (sort_fresh x.number x.sort there ∙ sort))
    where
      not_int : Sort.Fresh ≡ Sort.Int → ⊥
      not_int same = true≢false (ap (same_sort Sort.Fresh) same)

-- ---- keys of the memory

same_names : (memory : MemoryName) (p : List ℕ) → has_subkey memory (Name p) ≡ has_core memory Core.Prop
same_names Record p = refl
same_names Block p = refl
same_names Object p = refl

same_cells : (memory : MemoryName) (i : ℤ) → has_subkey memory (At i) ≡ has_core memory Core.Cell
same_cells Record i = refl
same_cells Block i = refl
same_cells Object i = refl

same_shapes : (memory : MemoryName) → has_subkey memory Shape ≡ has_core memory Core.Shape
same_shapes Record = refl
same_shapes Block = refl
same_shapes Object = refl

same_bounds : (memory : MemoryName) → has_subkey memory Bound ≡ has_core memory Core.Bound
same_bounds Record = refl
same_bounds Block = refl
same_bounds Object = refl

same_doms : (memory : MemoryName) → has_subkey memory Dom ≡ has_core memory Core.Dom
same_doms Record = refl
same_doms Block = refl
same_doms Object = refl

same_protos : (memory : MemoryName) → has_subkey memory Proto ≡ has_core memory Core.Proto
same_protos Record = refl
same_protos Block = refl
same_protos Object = refl

same_gones : (memory : MemoryName) → has_subkey memory Gone ≡ has_core memory Core.Gone
same_gones Record = refl
same_gones Block = refl
same_gones Object = refl

module _ (memory : MemoryName) (s : Sub) (has : has_subkey memory s ≡ true) where
  name_core : (o : Option PureValue) → name_of o ≡ Some s → has_core memory Core.Prop ≡ true
  name_core (Some (text p)) at = sym (same_names memory p) ∙ ap (has_subkey memory) (same_some at) ∙ has
  name_core (Some (integer i)) at = not_none at
  name_core (Some (boolean b)) at = not_none at
  name_core (Some (symbol n)) at = not_none at
  name_core (Some (kind k)) at = not_none at
  name_core (Some (procedure f)) at = not_none at
  name_core (Some (list ws)) at = not_none at
  name_core None at = not_none at

  cell_core : (o : Option PureValue) → cell_of o ≡ Some s → has_core memory Core.Cell ≡ true
  cell_core (Some (integer i)) at = sym (same_cells memory i) ∙ ap (has_subkey memory) (same_some at) ∙ has
  cell_core (Some (text p)) at = not_none at
  cell_core (Some (boolean b)) at = not_none at
  cell_core (Some (symbol n)) at = not_none at
  cell_core (Some (kind k)) at = not_none at
  cell_core (Some (procedure f)) at = not_none at
  cell_core (Some (list ws)) at = not_none at
  cell_core None at = not_none at

  -- the subkey that stands for one of the memory is of the memory
  sub_core : (v : List PureValue) (sub : PureSub) → sub_value v sub ≡ Some s → IsSubOf memory sub
  sub_core v (named t) at = name_core (value v t) at
  sub_core v (cell t) at = cell_core (value v t) at
  sub_core v shape at = sym (same_shapes memory) ∙ ap (has_subkey memory) (same_some at) ∙ has
  sub_core v bound at = sym (same_bounds memory) ∙ ap (has_subkey memory) (same_some at) ∙ has
  sub_core v dom at = sym (same_doms memory) ∙ ap (has_subkey memory) (same_some at) ∙ has
  sub_core v proto at = sym (same_protos memory) ∙ ap (has_subkey memory) (same_some at) ∙ has
  sub_core v gone at = sym (same_gones memory) ∙ ap (has_subkey memory) (same_some at) ∙ has

key_parts : (l : Option ℕ) (o : Option Sub) (q : Key) → key_of l o ≡ Some q → (l ≡ Some q.loc) × (o ≡ Some q.sub)
key_parts (Some n) (Some s) q is = (ap (λ (k : Key). Some k.loc) (same_some is), ap (λ (k : Key). Some k.sub) (same_some is))
key_parts (Some n) None q is = not_none is
key_parts None o q is = not_none is

-- a key with a plain location that stands for a key of the memory
pub at_new_symbol : (vars : List Sort) → list_all (same_sort Sort.Fresh) vars ≡ true → (v : List PureValue) (memory : MemoryName) (key : PureKey) (q : Key) → is_plain key.loc ≡ true → IsOver vars key.loc
    → key_value v key.loc key.sub ≡ Some q → has_subkey memory q.sub ≡ true → IsKeyAtNewSymbol memory vars key
at_new_symbol vars fresh v memory key q plain over named_so has =
    let (located, subkey) = key_parts (location_of (value v key.loc)) (sub_value v key.sub) q named_so in
    let simple = (and_parts (is_simple key.loc) (not (names_sort Sort.Any key.loc) && not (names_sort Sort.List key.loc)) plain).0 in
    let (x, (is, taken)) = plain_location vars fresh v key.loc q.loc simple over located in
    record { of_memory = sub_core memory q.sub has v key.sub subkey; location = x; is_location = is; taken = taken }

-- ---- the key that is missed

module _ (memory : MemoryName) (m : Actions) (own_keys : MissesWhatLacks memory m) (p : PureParts) (s : State) (proper : IsProperState memory s) (q : Key) where
  act_own : (b : Bool) (a : List ℕ) (args : List PureValue) → MayAct m a (handed b s) args s.heap → missed_key (action_result b m a args s).outcome ≡ Some q → has_subkey memory q.sub ≡ true
  act_own true a args may missed = (own_keys a (Some s.counter) args s.heap q proper.heap may (miss_is (m.act a (Some s.counter) args s.heap).outcome q missed)).1
  act_own false a args may missed = (own_keys a None args s.heap q proper.heap may (miss_is (m.act a None args s.heap).outcome q missed)).1

  values_own : (a : List ℕ) (es : List PureExpr) (r : Outcomes) → evaluate_all es s.current.store ≡ r → list_all is_well_made_expr es ≡ true
      → option_and_then (λ (t : ActionResult). missed_key t.outcome) (of_values (λ args. Some (action_result (m.takes_symbol a) m a args s)) r) ≡ Some q → has_subkey memory q.sub ≡ true
  values_own a es (Ok args) is made missed = act_own (m.takes_symbol a) a args (may_act_where_reached memory m s a es args proper made is) missed
  values_own a es (Err f) is made missed = not_none missed

  command_own : (c : PureCommand) → list_all is_well_made_expr (exprs_of c) ≡ true → option_and_then (λ (t : ActionResult). missed_key t.outcome) (result_of p m c s) ≡ Some q → has_subkey memory q.sub ≡ true
  command_own (act x a es) made missed = values_own a es (evaluate_all es s.current.store) refl made missed
  command_own (assign x e) made missed = not_none missed
  command_own (call x e es handler) made missed = not_none missed
  command_own (usym x) made missed = not_none missed
  command_own (isym x j) made missed = not_none missed
  command_own (ifgoto e i) made missed = not_none missed
  command_own (return e) made missed = not_none missed
  command_own (fail e) made missed = not_none missed
  command_own (throw e) made missed = not_none missed
  command_own vanish made missed = not_none missed
  command_own (fold_use u) made missed = not_none missed
  command_own (unfold_use u) made missed = not_none missed
  command_own (assert_that items) made missed = not_none missed
  command_own (loop_invariant xs ps items) made missed = not_none missed

  at_own : (c : Option PureNumberedCommand) → MadeCommand c
      → option_and_then (λ (t : ActionResult). missed_key t.outcome) (option_and_then (λ (d : PureNumberedCommand). result_of p m d.command s) c) ≡ Some q → has_subkey memory q.sub ≡ true
  at_own (Some c) made missed = command_own c.command (second_so (has_well_made_names c.command) _ made) missed
  at_own None made missed = not_none missed

  -- in a proper state only a key of the memory is missed
  pub missed_own : is_well_made p ≡ true → miss_at p m s ≡ Some q → has_subkey memory q.sub ≡ true
  missed_own made missed = at_own (command_at p s.current) (command_made (find_proc p.procs s.current.procedure) s.current.next (find_made p.procs s.current.procedure (procs_made p made))) missed
