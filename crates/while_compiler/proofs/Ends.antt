-- A While program and its compiled program have the same ends.
use Rattle.std.proofs.Common.{◌≡◌, ℕ, List, true, Some, length, refl}
use Rattle.std.specs.Option.{option_map}
use Rattle.std.specs.List.{list_all}
use Rattle.std.proofs.lemmas.Bool.{and_parts}
use Rattle.gil_values.specs.Pure.{PureValue}
use Rattle.gil_syntax.specs.Programs.{find_proc}
use Rattle.mem_model.specs.declared.keys.MemoryName.TheVariants.{Record}
use Rattle.mem_model.specs.Actions.{Actions}
use Rattle.record_heap.specs.Table.{record_actions}
use Rattle.gil_machine.specs.Step.{bind_all}
use Rattle.source_language.specs.Completions.{Situation}
use Rattle.source_language.specs.Names.{is_source_name}
use Rattle.source_language.specs.Pure.{find_function}
use Rattle.source_language.proofs.Ends as ends
use Rattle.source_language.proofs.Ends.{KeepsHead, BodiesFinish, found_passes, to_run, to_source, same_ends}
use Rattle.source_language.proofs.Following.{procedure_finishes}
use Rattle.source_language.proofs.NumberedNames.{temporaries_aside}
use Rattle.while_lang.specs.Pure.{PureFunction, PureSource}
use Rattle.while_lang.specs.Meaning.{block}
use Rattle.while_lang.specs.Names.{is_source_function, is_source_block}
use Rattle.while_compiler.specs.Compiled.{block_temporaries, function_names, function_code, compiled_function, compiled}
use Rattle.while_compiler.specs.SameEnds.{HasSameEnds}
use Rattle.while_compiler.proofs.NewRecords.{TakesForNew}
use Rattle.while_compiler.proofs.Following.{block_runs}

takes_for_new : TakesForNew record_actions
takes_for_new = record { new = refl; lookup = refl; mutate = refl; dispose = refl }

keeps_head : KeepsHead compiled_function
keeps_head = record { name = λ f. refl; params = λ f. refl }

module _ (source : PureSource) where
  same_found : (f : List ℕ) → find_proc (compiled source).procs f ≡ option_map compiled_function (find_function source.functions f)
  same_found = ends.same_found compiled_function keeps_head source.functions

  found_proc : (g : List ℕ) (h : PureFunction) → find_function source.functions g ≡ Some h
      → find_proc (compiled source).procs h.name ≡ Some (compiled_function h)
  found_proc = ends.found_proc compiled_function keeps_head source (compiled source) same_found

  module _ (m : Actions) (takes : TakesForNew m) (named : list_all (λ f. is_source_function f) source.functions ≡ true) (inputs : List PureValue) where
    finish : BodiesFinish compiled_function keeps_head (compiled source) m inputs source found_proc (block source.functions m inputs)
    finish loops least calls le calls_follow g h is args callers s =
        procedure_finishes (compiled source) m inputs h.name (compiled_function h) (found_proc g h is) callers h.at (function_names h) least
        (function_code h) (bind_all h.params args) inside (block source.functions m inputs loops calls h.name h.body inside)
        (temporaries_aside 0 (block_temporaries h.body)) refl
        (λ store ext has.
        block_runs (compiled source) m takes inputs source.functions loops calls same_found least le calls_follow h.name (compiled_function h)
        (found_proc g h is) callers h.body (length (function_names h)) store inside ext names has)
      where
        inside : Situation
        inside = record s { store = bind_all h.params args }

        names : is_source_block h.body ≡ true
        names = (and_parts (list_all is_source_name h.params) (is_source_block h.body)
            (found_passes is_source_function source.functions g h named is)).1

pub has_same_ends : (source : PureSource) → list_all (λ f. is_source_function f) source.functions ≡ true
    → HasSameEnds source (compiled source)
has_same_ends source named = record {
  starts = λ f args h counter. (
    to_run compiled_function keeps_head source (compiled source) (same_found source) Record f args h counter,
    to_source compiled_function keeps_head source (compiled source) (same_found source) Record f args h counter,
  );
  ends = λ f args h counter inputs s.
      same_ends compiled_function keeps_head (compiled source) record_actions inputs source (found_proc source)
      (block source.functions record_actions inputs) (finish source record_actions takes_for_new named inputs) f args h counter s.function.0
      s.function.1.0;
}
