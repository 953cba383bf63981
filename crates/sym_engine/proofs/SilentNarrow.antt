-- The commands that ask nothing keep a path narrow.
use Rattle.std.proofs.Common.{◌≡◌, ℕ, ◌+◌, List, [], length, true, Some, None, refl, sym, ap}
use Rattle.std.proofs.lemmas.List.{append-nil}
use Rattle.gil_values.specs.declared.kinds.Kind.{Kind}
use Rattle.pure_terms.specs.declared.variables.Sort.{Sort}
use Rattle.pure_terms.specs.Pure.{variable}
use Rattle.sym_engine.specs.Narrow.{narrow_growth, IsNarrow, IsNarrowPath}
use Rattle.sym_engine.proofs.Narrow.{kept, with_one_more, stack, running, old_ending}
use Rattle.sym_engine.proofs.SilentPlain.{no_end_is_known}
use Rattle.sym_evaluation.specs.Pure.{PureStore}
use Rattle.sym_model.specs.Plain.{is_narrow}
use Rattle.sym_model.specs.Terms.{StateTerms}
use Rattle.sym_model.proofs.ListLaws.{same_some, not_none}
use Rattle.sym_paths.specs.Laws.{IsBound}
use Rattle.sym_paths.specs.Moves.{draw_sort, running_store, vanishing, passing, next_variable, with_fresh, with_draw}
use Rattle.sym_paths.specs.Pure.{PurePath}
use Rattle.sym_paths.specs.Steps.{IsUnknown}
use Rattle.sym_paths.proofs.Binding.{each_bound}
use Rattle.sym_paths.proofs.Moving.{advanced_each}

-- the variable of a draw is a narrow term
drawn_narrow : (k : Kind) (sort : Sort) → draw_sort k ≡ Some sort → (n : ℕ) → is_narrow (variable (record { number = n; sort = sort })) ≡ true
drawn_narrow Kind.Int sort is n = ap (λ s. is_narrow (variable (record { number = n; sort = s }))) (sym (same_some is))
drawn_narrow Kind.Bool sort is n = ap (λ s. is_narrow (variable (record { number = n; sort = s }))) (sym (same_some is))
drawn_narrow Kind.Str sort is n = ap (λ s. is_narrow (variable (record { number = n; sort = s }))) (sym (same_some is))
drawn_narrow k sort is n = not_none is

module _ {S : Type 0} (terms : S → StateTerms) (b : ℕ) (path : PurePath S) (from : IsNarrowPath terms b path) where
  -- the path is narrow with larger numbers, and isn't unknown
  abbrev pub StaysKnown : PurePath S → Type 0
  StaysKnown next = IsNarrowPath terms (b + narrow_growth) next × ¬ IsUnknown next.ending

  pub vanishing_narrow : StaysKnown (vanishing path)
  vanishing_narrow = (kept terms b path from (vanishing path) [] refl refl refl (sym (append-nil path.conds)) tt (stack terms b path from) tt, λ unknown. unknown)

  pub passing_narrow : path.ending ≡ None → StaysKnown (passing path)
  passing_narrow going = (
    kept terms b path from (passing path) [] refl refl refl (sym (append-nil path.conds)) tt (advanced_each (IsNarrow (b + narrow_growth)) path.stack (running_store path.stack) (stack terms b path from) (running terms b path from)) (old_ending terms b path from),
    no_end_is_known path.ending going,
  )

  pub with_fresh_narrow : (x : List ℕ) (bs : PureStore) → IsBound (running_store path.stack) x (next_variable path Sort.Fresh) bs → path.ending ≡ None → StaysKnown (with_fresh path bs)
  with_fresh_narrow x bs bound going = (
    with_one_more terms b path from (with_fresh path bs) Sort.Fresh refl refl refl refl refl
        (advanced_each (IsNarrow (b + narrow_growth)) path.stack bs (stack terms b path from) (each_bound (IsNarrow (b + narrow_growth)) (running_store path.stack) bs x (next_variable path Sort.Fresh) bound (refl, refl) (running terms b path from))),
    no_end_is_known path.ending going,
  )

  pub with_draw_narrow : (x : List ℕ) (k : Kind) (sort : Sort) (bs : PureStore) → draw_sort k ≡ Some sort → IsBound (running_store path.stack) x (next_variable path sort) bs → path.ending ≡ None → StaysKnown (with_draw path sort bs)
  with_draw_narrow x k sort bs drawn bound going = (
    with_one_more terms b path from (with_draw path sort bs) sort refl refl refl refl refl
        (advanced_each (IsNarrow (b + narrow_growth)) path.stack bs (stack terms b path from)
        (each_bound (IsNarrow (b + narrow_growth)) (running_store path.stack) bs x (next_variable path sort) bound (drawn_narrow k sort drawn (length path.vars), refl) (running terms b path from))),
    no_end_is_known path.ending going,
  )
