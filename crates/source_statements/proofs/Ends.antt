-- A program of any language and its compiled program have the same ends, where the commands of the language's expressions and simple
-- statements do what these mean.
use Rattle.std.proofs.Common.{◌≡◌, ℕ, ◌-◌, ◌≤◌, List, Bool, true, None, Some, length, refl}
use Rattle.std.specs.List.{list_all}
use Rattle.std.proofs.lemmas.Bool.{and_parts}
use Rattle.gil_values.specs.Pure.{PureValue}
use Rattle.gil_syntax.specs.Evaluation.{Store}
use Rattle.gil_syntax.specs.Pure.{PureParts}
use Rattle.gil_syntax.specs.Programs.{find_proc}
use Rattle.mem_model.specs.declared.keys.MemoryName.{MemoryName}
use Rattle.mem_model.specs.Actions.{Actions}
use Rattle.gil_machine.specs.Run.{run}
use Rattle.gil_machine.specs.State.{Frame}
use Rattle.gil_machine.specs.Step.{bind_all}
use Rattle.source_language.specs.Calls.{Calls, Bodies}
use Rattle.source_language.specs.Completions.{Situation}
use Rattle.source_language.specs.Names.{is_source_name}
use Rattle.source_language.specs.Pure.{PureFunction, PureSource, find_function}
use Rattle.source_language.proofs.Ends as ends
use Rattle.source_language.proofs.Ends.{CallsFollow, KeepsHead, BodiesFinish, found_passes, to_run, to_source, same_ends}
use Rattle.source_language.proofs.Following.{state_at, Finishes, procedure_finishes}
use Rattle.source_language.proofs.NumberedNames.{own_aside}
use Rattle.source_statements.specs.Codes.{Codes}
use Rattle.source_statements.specs.Compiled.{block_temporaries, block_tries, function_names, function_code, compiled_function, compiled}
use Rattle.source_statements.specs.Meaning.{Meanings, block}
use Rattle.source_statements.specs.Names.{is_source_block, is_source_function}
use Rattle.source_statements.specs.Pure.{PureBlock}
use Rattle.source_statements.specs.SameEnds.{HasSameEnds}
use Rattle.source_statements.proofs.Following.{LanguageRuns, block_runs}

module _ {E S : Type 0} (c : Codes E S) where
  pub keeps_head : KeepsHead (compiled_function c)
  keeps_head = record { name = λ f. refl; params = λ f. refl }

  module _ (k : Meanings E S) (has_try : Bool) (is_source_expression : E → Bool) (is_source_simple : S → Bool) (p : PureParts) (m : Actions)
      (inputs : List PureValue) where
    -- the machine finishes the procedure of a function of statements as they say, in a program that may have other procedures too
    pub statements_finish : (h : PureFunction (PureBlock E S)) (found : find_proc p.procs h.name ≡ Some (compiled_function c h)) (callers : List Frame)
        (loops least : ℕ) → least ≤ loops
        → LanguageRuns p m inputs h.name (compiled_function c h) found callers least k c has_try is_source_expression is_source_simple
        → is_source_block has_try is_source_expression is_source_simple h.body ≡ true → (first : Store) (s : Situation)
        → Finishes (run p m inputs) least callers (state_at h.name 0 callers first s) (block k loops h.name h.body (record s { store = first }))
    statements_finish h found callers loops least le runs names first s =
        procedure_finishes p m inputs h.name (compiled_function c h) found callers h.at (function_names c h) least (function_code c h) first inside
        (block k loops h.name h.body inside) (own_aside (block_temporaries c h.body) (block_tries c h.body)) refl
        (λ store ext has.
        block_runs p m inputs h.name (compiled_function c h) found callers least k c has_try is_source_expression is_source_simple runs loops le None tt
        h.body (length (function_names c h)) store inside ext names has)
      where
        inside : Situation
        inside = record s { store = first }

  -- a program whose functions are all of statements
  module _ (source : PureSource (PureFunction (PureBlock E S))) where
    pub found_proc : (g : List ℕ) (h : PureFunction (PureBlock E S)) → find_function source.functions g ≡ Some h
        → find_proc (compiled c source).procs h.name ≡ Some (compiled_function c h)
    found_proc = ends.found_proc (compiled_function c) keeps_head source (compiled c source) (ends.same_found (compiled_function c) keeps_head source.functions)

    module _ (m : Actions) (meanings : List PureValue → ℕ → Calls (PureBlock E S) → Meanings E S) (has_try : Bool) (is_source_expression : E → Bool)
        (is_source_simple : S → Bool) where
      abbrev pub body : List PureValue → Bodies (PureBlock E S)
      body inputs loops calls f b s = block (meanings inputs loops calls) loops f b s

      -- what is to be shown of the language, in each function of the program, where calls follow
      abbrev pub AllRun : Type 0
      AllRun = (inputs : List PureValue) (loops least : ℕ) (calls : Calls (PureBlock E S)) → least ≤ loops
          → CallsFollow (compiled c source) m inputs source.functions calls (least - 1)
          → (g : List ℕ) (h : PureFunction (PureBlock E S)) (is : find_function source.functions g ≡ Some h) (callers : List Frame)
          → LanguageRuns (compiled c source) m inputs h.name (compiled_function c h) (found_proc g h is) callers least (meanings inputs loops calls) c has_try
          is_source_expression is_source_simple

      module _ (runs : AllRun) (named : list_all (λ f. is_source_function has_try is_source_expression is_source_simple f) source.functions ≡ true) where
        finish : (inputs : List PureValue)
            → BodiesFinish (compiled_function c) keeps_head (compiled c source) m inputs source found_proc (body inputs)
        finish inputs loops least calls le calls_follow g h is args callers s =
            statements_finish (meanings inputs loops calls) has_try is_source_expression is_source_simple (compiled c source) m inputs h (found_proc g h is)
            callers loops least le (runs inputs loops least calls le calls_follow g h is callers) names (bind_all h.params args) s
          where
            names : is_source_block has_try is_source_expression is_source_simple h.body ≡ true
            names = (and_parts (list_all is_source_name h.params) (is_source_block has_try is_source_expression is_source_simple h.body)
                (found_passes (λ f. is_source_function has_try is_source_expression is_source_simple f) source.functions g h named is)).1

        pub has_same_ends : (memory : MemoryName) → HasSameEnds memory m body source (compiled c source)
        has_same_ends memory =
            let same = ends.same_found (compiled_function c) keeps_head source.functions in
            record {
              starts = λ f args h counter. (
                to_run (compiled_function c) keeps_head source (compiled c source) same memory f args h counter,
                to_source (compiled_function c) keeps_head source (compiled c source) same memory f args h counter,
              );
              ends = λ f args h counter inputs s.
                  same_ends (compiled_function c) keeps_head (compiled c source) m inputs source found_proc (body inputs) (finish inputs) f args h counter
                  s.function.0 s.function.1.0;
            }
