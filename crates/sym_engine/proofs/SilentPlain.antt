-- The commands that ask nothing keep a path plain.
use Rattle.std.proofs.Common.{◌≡◌, ℕ, ◌+◌, ℤ, List, [], length, true, Option, Some, None, refl, sym, ap, subst}
use Rattle.std.proofs.lemmas.List.{append-nil}
use Rattle.gil_values.specs.declared.kinds.Kind.{Kind}
use Rattle.pure_terms.specs.declared.variables.Sort.{Sort}
use Rattle.pure_terms.specs.Fragment.{is_plain}
use Rattle.pure_terms.specs.Pure.{variable}
use Rattle.sym_engine.proofs.Plain.{kept, with_one_more, stack, running, old_ending}
use Rattle.sym_evaluation.specs.Plainly.{IsPlain}
use Rattle.sym_evaluation.specs.Pure.{PureStore}
use Rattle.sym_model.proofs.ListLaws.{same_some, not_none}
use Rattle.sym_paths.specs.Laws.{IsBound}
use Rattle.sym_paths.specs.Moves.{draw_sort, running_store, vanishing, passing, next_variable, with_fresh, with_draw}
use Rattle.sym_paths.specs.Pure.{PureEnd, PurePath}
use Rattle.sym_paths.specs.Steps.{step_growth, IsUnknown, IsPlainPath}
use Rattle.sym_paths.proofs.Binding.{each_bound}
use Rattle.sym_paths.proofs.Moving.{advanced_each}

-- the variable of a draw is a plain term
drawn_plain : (k : Kind) (sort : Sort) → draw_sort k ≡ Some sort → (n : ℕ) → is_plain (variable (record { number = n; sort = sort })) ≡ true
drawn_plain Kind.Int sort is n = ap (λ s. is_plain (variable (record { number = n; sort = s }))) (sym (same_some is))
drawn_plain Kind.Bool sort is n = ap (λ s. is_plain (variable (record { number = n; sort = s }))) (sym (same_some is))
drawn_plain Kind.Str sort is n = ap (λ s. is_plain (variable (record { number = n; sort = s }))) (sym (same_some is))
drawn_plain Kind.Sym sort is n = not_none is
drawn_plain Kind.Kind sort is n = not_none is
drawn_plain Kind.Proc sort is n = not_none is
drawn_plain Kind.List sort is n = not_none is
drawn_plain Kind.Undef sort is n = not_none is
drawn_plain Kind.Null sort is n = not_none is

pub no_end_is_known : (o : Option PureEnd) → o ≡ None → ¬ IsUnknown o
no_end_is_known o is unknown = subst IsUnknown is unknown

module _ {S : Type 0} (plain : S → ℤ → ℤ → Type 0) (b : ℕ) (path : PurePath S) (from : IsPlainPath plain b path) where
  -- the path is plain with larger numbers, and isn't unknown
  abbrev pub StaysKnown : PurePath S → Type 0
  StaysKnown next = IsPlainPath plain (b + step_growth) next × ¬ IsUnknown next.ending

  pub vanishing_plain : StaysKnown (vanishing path)
  vanishing_plain = (kept plain b path from (vanishing path) [] refl refl refl (sym (append-nil path.conds)) tt (stack plain b path from) tt, λ unknown. unknown)

  pub passing_plain : path.ending ≡ None → StaysKnown (passing path)
  passing_plain going = (
    kept plain b path from (passing path) [] refl refl refl (sym (append-nil path.conds)) tt (advanced_each (IsPlain (b + step_growth)) path.stack (running_store path.stack) (stack plain b path from) (running plain b path from)) (old_ending plain b path from),
    no_end_is_known path.ending going,
  )

  pub with_fresh_plain : (x : List ℕ) (bs : PureStore) → IsBound (running_store path.stack) x (next_variable path Sort.Fresh) bs → path.ending ≡ None → StaysKnown (with_fresh path bs)
  with_fresh_plain x bs bound going = (
    with_one_more plain b path from (with_fresh path bs) Sort.Fresh refl refl refl refl refl
        (advanced_each (IsPlain (b + step_growth)) path.stack bs (stack plain b path from) (each_bound (IsPlain (b + step_growth)) (running_store path.stack) bs x (next_variable path Sort.Fresh) bound (refl, refl) (running plain b path from))),
    no_end_is_known path.ending going,
  )

  pub with_draw_plain : (x : List ℕ) (k : Kind) (sort : Sort) (bs : PureStore) → draw_sort k ≡ Some sort → IsBound (running_store path.stack) x (next_variable path sort) bs → path.ending ≡ None → StaysKnown (with_draw path sort bs)
  with_draw_plain x k sort bs drawn bound going = (
    with_one_more plain b path from (with_draw path sort bs) sort refl refl refl refl refl
        (advanced_each (IsPlain (b + step_growth)) path.stack bs (stack plain b path from)
        (each_bound (IsPlain (b + step_growth)) (running_store path.stack) bs x (next_variable path sort) bound (drawn_plain k sort drawn (length path.vars), refl) (running plain b path from))),
    no_end_is_known path.ending going,
  )
