-- Draws: their sorts, their values, and the step that draws.
use Rattle.std.proofs.Common.{◌≡◌, ℕ, pos, List, [], ◌∷◌, ◌++◌, Bool, true, false, if◌then◌else◌, slice_get, Option, Some, None, IsTrue, refl, sym, ap, subst, ◌∙◌, true≢false}
use Rattle.std.specs.List.{Contains}
use Rattle.gil_values.specs.declared.kinds.Kind.{Kind}
use Rattle.gil_values.specs.Equality.{same_kind}
use Rattle.gil_values.specs.Pure.{PureValue, integer, boolean, text, symbol, kind, procedure, list, kind_of}
use Rattle.gil_values.specs.Symbols.{symbols, AreBelow}
use Rattle.gil_values.proofs.OperatorSymbols.{none_contained}
use Rattle.gil_machine.specs.State.{State, End, Step, ends, end_at, bad_input}
use Rattle.gil_machine.specs.Step.{assigned, draw}
use Rattle.pure_terms.specs.declared.variables.Sort.{Sort}
use Rattle.pure_terms.specs.Kinds.{has_sort}
use Rattle.pure_terms.specs.Pure.{variable}
use Rattle.sym_model.proofs.ListLaws.{same_some, not_none}
use Rattle.sym_paths.specs.Moves.{draw_sort}
use Rattle.sym_paths.specs.Steps.{IsNext, IsNewSort, drawn_from, IsInputFault, HasInput}

by_draw : (P : Kind → Sort → Type 0) → P Kind.Int Sort.Int → P Kind.Bool Sort.Bool → P Kind.Str Sort.Str → (k : Kind) (sort : Sort) → draw_sort k ≡ Some sort → P k sort
by_draw P number truth characters Kind.Int sort is = subst (P Kind.Int) (same_some is) number
by_draw P number truth characters Kind.Bool sort is = subst (P Kind.Bool) (same_some is) truth
by_draw P number truth characters Kind.Str sort is = subst (P Kind.Str) (same_some is) characters
by_draw P number truth characters Kind.Sym sort is = not_none is
by_draw P number truth characters Kind.Kind sort is = not_none is
by_draw P number truth characters Kind.Proc sort is = not_none is
by_draw P number truth characters Kind.List sort is = not_none is
by_draw P number truth characters Kind.Undef sort is = not_none is
by_draw P number truth characters Kind.Null sort is = not_none is

pub drawn_is : (k : Kind) (sort : Sort) → draw_sort k ≡ Some sort → (n : ℕ) → drawn_from n (sort ∷ []) ≡ variable (record { number = n; sort = sort }) ∷ []
drawn_is = by_draw (λ k sort. (n : ℕ) → drawn_from n (sort ∷ []) ≡ variable (record { number = n; sort = sort }) ∷ []) (λ n. refl) (λ n. refl) (λ n. refl)

pub new_sort : (k : Kind) (sort : Sort) → draw_sort k ≡ Some sort → IsNewSort sort
new_sort = by_draw (λ k sort. IsNewSort sort) tt tt tt

pub drawn_next : (k : Kind) (sort : Sort) → draw_sort k ≡ Some sort → (inputs : List PureValue) (n d : ℕ) (w : PureValue) → IsNext inputs n d sort w → slice_get inputs d ≡ Some w
drawn_next = by_draw (λ k sort. (inputs : List PureValue) (n d : ℕ) (w : PureValue) → IsNext inputs n d sort w → slice_get inputs d ≡ Some w)
    (λ inputs n d w is. is) (λ inputs n d w is. is) (λ inputs n d w is. is)

pub next_drawn : (k : Kind) (sort : Sort) → draw_sort k ≡ Some sort → (inputs : List PureValue) (n d : ℕ) (w : PureValue) → slice_get inputs d ≡ Some w → IsNext inputs n d sort w
next_drawn = by_draw (λ k sort. (inputs : List PureValue) (n d : ℕ) (w : PureValue) → slice_get inputs d ≡ Some w → IsNext inputs n d sort w)
    (λ inputs n d w is. is) (λ inputs n d w is. is) (λ inputs n d w is. is)

is_fresh : Sort → Bool
is_fresh Sort.Fresh = true
is_fresh _ = false

pub not_fresh : (k : Kind) (sort : Sort) → draw_sort k ≡ Some sort → ¬ (sort ≡ Sort.Fresh)
unfolding is_fresh
not_fresh = by_draw (λ k sort. ¬ (sort ≡ Sort.Fresh)) (λ e. true≢false (sym (ap is_fresh e))) (λ e. true≢false (sym (ap is_fresh e))) (λ e. true≢false (sym (ap is_fresh e)))

pub some_fits : (k : Kind) (sort : Sort) → draw_sort k ≡ Some sort → (w : PureValue) × IsTrue (has_sort sort w)
some_fits = by_draw (λ k sort. (w : PureValue) × IsTrue (has_sort sort w)) (integer (pos 0), refl) (boolean false, refl) (text [], refl)

-- ---- kinds

same_kind_same : (k l : Kind) → same_kind k l ≡ true → k ≡ l
same_kind_same Kind.Int Kind.Int h = refl
same_kind_same Kind.Bool Kind.Bool h = refl
same_kind_same Kind.Str Kind.Str h = refl
same_kind_same Kind.Sym Kind.Sym h = refl
same_kind_same Kind.Kind Kind.Kind h = refl
same_kind_same Kind.Proc Kind.Proc h = refl
same_kind_same Kind.List Kind.List h = refl
same_kind_same Kind.Undef Kind.Undef h = refl
same_kind_same Kind.Null Kind.Null h = refl
same_kind_same k l h = absurd (true≢false (sym h))

same_as_itself : (k : Kind) → same_kind k k ≡ true
same_as_itself Kind.Int = refl
same_as_itself Kind.Bool = refl
same_as_itself Kind.Str = refl
same_as_itself Kind.Sym = refl
same_as_itself Kind.Kind = refl
same_as_itself Kind.Proc = refl
same_as_itself Kind.List = refl
same_as_itself Kind.Undef = refl
same_as_itself Kind.Null = refl

pub fits_kind : (k : Kind) (sort : Sort) → draw_sort k ≡ Some sort → (w : PureValue) → IsTrue (has_sort sort w) → kind_of w ≡ k
fits_kind = by_draw (λ k sort. (w : PureValue) → IsTrue (has_sort sort w) → kind_of w ≡ k)
    (λ w fits. sym (same_kind_same Kind.Int (kind_of w) fits)) (λ w fits. sym (same_kind_same Kind.Bool (kind_of w) fits)) (λ w fits. sym (same_kind_same Kind.Str (kind_of w) fits))

pub kind_fits : (k : Kind) (sort : Sort) → draw_sort k ≡ Some sort → (w : PureValue) → kind_of w ≡ k → IsTrue (has_sort sort w)
kind_fits = by_draw (λ k sort. (w : PureValue) → kind_of w ≡ k → IsTrue (has_sort sort w))
    (λ w is. ap (same_kind Kind.Int) is) (λ w is. ap (same_kind Kind.Bool) is) (λ w is. ap (same_kind Kind.Str) is)

-- whether values of a kind may hold symbols
holds_symbols : Kind → Bool
holds_symbols Kind.Sym = true
holds_symbols Kind.List = true
holds_symbols _ = false

holds_none : (w : PureValue) → holds_symbols (kind_of w) ≡ false → symbols w ≡ []
unfolding holds_symbols
holds_none (integer n) plain = refl
holds_none (boolean b) plain = refl
holds_none (text cs) plain = refl
holds_none (symbol n) plain = absurd (true≢false plain)
holds_none (kind k) plain = refl
holds_none (procedure name) plain = refl
holds_none (list ws) plain = absurd (true≢false plain)

pub no_symbols : (k : Kind) (sort : Sort) → draw_sort k ≡ Some sort → (w : PureValue) → kind_of w ≡ k → symbols w ≡ []
unfolding holds_symbols
no_symbols = by_draw (λ k sort. (w : PureValue) → kind_of w ≡ k → symbols w ≡ [])
    (λ w is. holds_none w (ap holds_symbols is)) (λ w is. holds_none w (ap holds_symbols is)) (λ w is. holds_none w (ap holds_symbols is))

pub no_symbol_below : (n : ℕ) (w : PureValue) → symbols w ≡ [] → AreBelow n (w ∷ [])
no_symbol_below n w none m occurs = absurd (none_contained m (subst (λ (ns : List ℕ). Contains (ns ++ []) m) none occurs))

-- ---- the step

drawn_by : (b : Bool) (w : PureValue) (x : List ℕ) (t : State) → b ≡ true → (if b then assigned x w t else ends (end_at t (bad_input t.draws))) ≡ assigned x w t
drawn_by true w x t is = refl
drawn_by false w x t is = absurd (true≢false (sym is))

pub draws_this : (o : Option PureValue) (w : PureValue) (x : List ℕ) (k : Kind) (t : State) → o ≡ Some w → kind_of w ≡ k → draw o x k t ≡ assigned x w t
draws_this o w x k t there is = ap (λ u. draw u x k t) there ∙ drawn_by (same_kind (kind_of w) k) w x t (ap (λ l. same_kind l k) is ∙ same_as_itself k)

chosen_by : (b : Bool) (a : Step) (e : End) → IsInputFault e.ending → HasInput (if b then a else ends e) → b ≡ true
chosen_by true a e fault has = refl
chosen_by false a e fault has = absurd (has fault)

pub input_there : (o : Option PureValue) (x : List ℕ) (k : Kind) (t : State) → HasInput (draw o x k t) → (w : PureValue) × ((o ≡ Some w) × (kind_of w ≡ k))
input_there None x k t has = absurd (has tt)
input_there (Some w) x k t has =
    (w, (refl, same_kind_same (kind_of w) k (chosen_by (same_kind (kind_of w) k) (assigned x w t) (end_at t (bad_input t.draws)) tt has)))
