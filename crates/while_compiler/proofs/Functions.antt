-- Functions in order, one more at a time, and the first that is too long.
use Rattle.std.proofs.Common.{◌≡◌, ℕ, ◌+◌, ◌<◌, List, [], ◌∷◌, ◌++◌, map, take, get_or, length, false, Some, None, sym, ap, ◌∙◌, arith}
use Rattle.std.specs.Prelude.{nat_lt}
use Rattle.std.proofs.lemmas.Bool.Decides.{nat_tests}
use Rattle.std.proofs.lemmas.List.{map_push, length-map}
use Rattle.std.proofs.lemmas.Option.{slice_get_within}
use Rattle.gil_values.proofs.Lists.{slice_get-read}
use Rattle.gil_syntax.proofs.NameLemmas.{map-take_read}
use Rattle.gil_syntax.specs.declared.parts.Proc.{Proc}
use Rattle.gil_syntax.specs.View.{proc_view}
use Rattle.source_language.specs.declared.trees.Function.{Function}
use Rattle.source_language.specs.Limits.{first_long}
use Rattle.source_language.proofs.TooLong.{IsFirstTooLong, none_long, one_long}
use Rattle.while_lang.specs.declared.tree.Block.{Block}
use Rattle.while_lang.specs.Pure.{PureFunction}
use Rattle.while_lang.specs.View.{function_view}
use Rattle.while_compiler.specs.Compiled.{compiled_function}
use Rattle.while_compiler.specs.Valid.{first_too_long}

module _ (xs : List (Function Block)) (i : ℕ) (x : Function Block) (below : i < length xs) (is : x ≡ get_or xs i x) where
  pub procs-next : (procs more : List Proc) (q : Proc) → map proc_view procs ≡ map compiled_function (map function_view (take i xs))
      → more ≡ procs ++ q ∷ [] → proc_view q ≡ compiled_function (function_view x)
      → map proc_view more ≡ map compiled_function (map function_view (take (i + 1) xs))
  procs-next procs more q before push same =
      ap (map proc_view) push
      ∙ map_push proc_view procs q
      ∙ (λ k. before k ++ same k ∷ [])
      ∙ sym (map_push compiled_function (map function_view (take i xs)) (function_view x))
      ∙ ap (map compiled_function) (sym (map-take_read function_view xs i x below is))

-- procedures in the order of their functions
module _ (ps : List Proc) (xs : List (Function Block)) (same : map proc_view ps ≡ map compiled_function (map function_view xs)) where
  pub none_too_long : None ≡ first_long (map proc_view ps) → None ≡ first_too_long (map function_view xs)
  none_too_long none = sym (none_long (λ f. f.at) compiled_function (map function_view xs) (sym (none ∙ ap first_long same)))

  module _ (i : ℕ) (long : Some i ≡ first_long (map proc_view ps)) where
    found : IsFirstTooLong (λ f. f.at) compiled_function (map function_view xs) i
    found = one_long (λ f. f.at) compiled_function (map function_view xs) i (sym (long ∙ ap first_long same))

    pub one_too_long : (x : Function Block) → i < length xs → x ≡ get_or xs i x → Some x.at ≡ first_too_long (map function_view xs)
    one_too_long x below is =
        let read : Some (function_view x) ≡ Some found.function = sym (slice_get-read function_view xs i x below is) ∙ found.there in
        let it : function_view x ≡ found.function = cc in
        ap (λ (f : PureFunction). Some f.at) it ∙ sym found.first

    pub there_is_one : false ≡ nat_lt i (length xs) → ⊥
    there_is_one none =
        let within = slice_get_within (map function_view xs) i found.function found.there in
        let below : i < length xs = omega (arith, within, length-map xs function_view) in
        grind (arith, nat_tests)
