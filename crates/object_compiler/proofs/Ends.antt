-- A program of the object language and its compiled program have the same ends.
use Rattle.std.proofs.Common.{◌≡◌, inl, inr, ℕ, ◌-◌, ◌≤◌, List, [], ◌∷◌, true, None, Some, refl, sym, subst, arith}
use Rattle.std.specs.List.{list_all}
use Rattle.std.proofs.lemmas.Bool.{and_parts}
use Rattle.gil_values.specs.Pure.{PureValue}
use Rattle.gil_syntax.specs.Programs.{find_proc}
use Rattle.mem_model.specs.declared.keys.MemoryName.TheVariants as memories
use Rattle.object_heap.specs.Table.{object_actions}
use Rattle.gil_machine.specs.State.{Frame}
use Rattle.gil_machine.specs.Step.{bind_all}
use Rattle.gil_machine.specs.Run.{run}
use Rattle.source_language.specs.Completions.{Situation}
use Rattle.source_language.specs.Names.{is_source_name}
use Rattle.source_language.specs.Pure as trees
use Rattle.source_language.specs.Pure.{find_function}
use Rattle.source_language.proofs.Ends.{CallsFollow, BodiesFinish, found_passes, to_run, to_source, same_ends}
use Rattle.source_language.proofs.Following.{state_at, Finishes, leads, steps, one_step}
use Rattle.source_operators.specs.Names.{is_source_expression}
use Rattle.source_statements.specs.Names.{is_source_block}
use Rattle.source_statements.proofs.Ends.{statements_finish}
use Rattle.object_operators.specs.Library.{get_proc}
use Rattle.object_operators.specs.Walk.{get_name}
use Rattle.object_operators.proofs.Running.{operators_run}
use Rattle.object_operators.proofs.Walk.{TakesForWalks, walk_finishes}
use Rattle.object_lang.specs.Meaning.{PureBody, Procedures, Calls, of_statements, get_function, object_meanings, reads, body, with_library}
use Rattle.object_lang.specs.Names.{is_source_simple, is_source_function}
use Rattle.object_lang.specs.Pure.{PureFunction, PureSource}
use Rattle.object_lang.specs.Resolved.{resolved}
use Rattle.object_compiler.specs.Compiled.{object_codes, compiled_function, compiled}
use Rattle.object_compiler.specs.SameEnds.{HasSameEnds}
use Rattle.object_compiler.proofs.Actions.{TakesForObjects}
use Rattle.object_compiler.proofs.Following.{language_runs}
use Rattle.object_compiler.proofs.Names.{resolved_named}
use Rattle.object_compiler.proofs.Programs.{procedure, keeps_head, IsFound, function_found, same_found, found_proc, library_proc}

takes_for_objects : TakesForObjects object_actions
takes_for_objects = record { new = refl; get = refl; set = refl; delete = refl; has = refl; getproto = refl; setproto = refl }

takes_for_walks : TakesForWalks object_actions
takes_for_walks = record { has = refl; get = refl; getproto = refl }

module _ (source : PureSource) (named : list_all (λ f. is_source_function f) source.functions ≡ true) (inputs : List PureValue) where
  abbrev Functions : Procedures
  Functions = (with_library source).functions

  all_named : list_all (λ f. is_source_function f) (resolved source).functions ≡ true
  all_named = resolved_named source named

  library : find_proc (compiled source).procs get_name ≡ Some get_proc
  library = library_proc source all_named

  -- the procedure that reads properties, with any arguments
  library_finishes : (loops least : ℕ) → least ≤ loops → (args : List PureValue) (callers : List Frame) (s : Situation)
      → Finishes (run (compiled source) object_actions inputs) least callers (state_at get_name 0 callers (bind_all get_function.params args) s)
      (reads object_actions loops (record s { store = bind_all get_function.params args }))
  library_finishes loops least le [] callers s = (
    leads _ _ _ (one_step (compiled source) object_actions inputs get_name get_proc library callers None _ _
        (steps (compiled source) object_actions inputs get_name get_proc library callers None 0 _ [] s refl)),
    tt,
  )
  library_finishes loops least le (v ∷ []) callers s = (
    leads _ _ _ (one_step (compiled source) object_actions inputs get_name get_proc library callers None _ _
        (steps (compiled source) object_actions inputs get_name get_proc library callers None 0 _ (bind_all get_function.params (v ∷ [])) s refl)),
    tt,
  )
  library_finishes loops least le (v ∷ w ∷ rest) callers s =
      walk_finishes (compiled source) object_actions takes_for_walks inputs library callers loops least le v w
      (bind_all get_function.params (v ∷ w ∷ rest)) (record s { store = bind_all get_function.params (v ∷ w ∷ rest) }) refl refl

  module _ (loops least : ℕ) (calls : Calls) (le : least ≤ loops) (follow : CallsFollow (compiled source) object_actions inputs Functions calls (least - 1)) where
    -- the procedure of a function of statements
    function_finishes : (g : List ℕ) (k : PureFunction) → find_function Functions g ≡ Some (of_statements k)
        → find_function (resolved source).functions g ≡ Some k → (args : List PureValue) (callers : List Frame) (s : Situation)
        → Finishes (run (compiled source) object_actions inputs) least callers (state_at k.name 0 callers (bind_all k.params args) s)
        (body Functions object_actions inputs loops calls k.name (of_statements k).body (record s { store = bind_all k.params args }))
    function_finishes g k is there args callers s =
        statements_finish object_codes (object_meanings Functions object_actions inputs loops calls) true is_source_expression is_source_simple
        (compiled source) object_actions inputs k found callers loops least le
        (language_runs (compiled source) object_actions takes_for_objects inputs Functions loops calls (same_found source) least follow k.name
        (compiled_function k) found callers
        (λ catcher some end le'. operators_run (compiled source) object_actions inputs k.name (compiled_function k) found callers catcher some end
        takes_for_walks library loops (omega (arith, le, le'))))
        names_it (bind_all k.params args) s
      where
        found : find_proc (compiled source).procs k.name ≡ Some (compiled_function k)
        found = found_proc source g (of_statements k) is

        passes : is_source_function k ≡ true
        passes = found_passes (λ f. is_source_function f) (resolved source).functions g k all_named there

        names_it : is_source_block true is_source_expression is_source_simple k.body ≡ true
        names_it = (and_parts (list_all is_source_name k.params) _ (and_parts (is_source_name k.name) _ passes).1).1

    finishes_found : (g : List ℕ) (h : trees.PureFunction PureBody) → find_function Functions g ≡ Some h → IsFound (find_function (resolved source).functions g) h
        → (args : List PureValue) (callers : List Frame) (s : Situation)
        → Finishes (run (compiled source) object_actions inputs) least callers (state_at h.name 0 callers (bind_all h.params args) s)
        (body Functions object_actions inputs loops calls h.name h.body (record s { store = bind_all h.params args }))
    finishes_found g h is (inl same) args callers s =
        subst (λ (r : trees.PureFunction PureBody). Finishes (run (compiled source) object_actions inputs) least callers (state_at r.name 0 callers (bind_all r.params args) s)
        (body Functions object_actions inputs loops calls r.name r.body (record s { store = bind_all r.params args }))) (sym same)
        (library_finishes loops least le args callers s)
    finishes_found g h is (inr (k, same, there)) args callers s =
        subst (λ (r : trees.PureFunction PureBody). Finishes (run (compiled source) object_actions inputs) least callers (state_at r.name 0 callers (bind_all r.params args) s)
        (body Functions object_actions inputs loops calls r.name r.body (record s { store = bind_all r.params args }))) (sym same)
        (function_finishes g k (subst (λ r. find_function Functions g ≡ Some r) same is) there args callers s)

  finish : BodiesFinish procedure keeps_head (compiled source) object_actions inputs (with_library source) (found_proc source)
      (body Functions object_actions inputs)
  finish loops least calls le follow g h is args callers s =
      finishes_found loops least calls le follow g h is (function_found (resolved source).functions g h is) args callers s

pub has_same_ends : (source : PureSource) → list_all (λ f. is_source_function f) source.functions ≡ true → HasSameEnds source (compiled source)
has_same_ends source named = record {
  starts = λ f args h counter. (
    to_run procedure keeps_head (with_library source) (compiled source) (same_found source) memories.Object f args h counter,
    to_source procedure keeps_head (with_library source) (compiled source) (same_found source) memories.Object f args h counter,
  );
  ends = λ f args h counter inputs s.
      same_ends procedure keeps_head (compiled source) object_actions inputs (with_library source) (found_proc source)
      (body (with_library source).functions object_actions inputs) (finish source named inputs) f args h counter s.function.0 s.function.1.0;
}
