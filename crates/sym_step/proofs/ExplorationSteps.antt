-- Valuations that follow a run: those of longer paths are those of shorter ones with the values of the new variables.
use Rattle.std.proofs.Common.{◌≡◌, ℕ, suc, ◌+◌, List, [], ◌∷◌, ◌++◌, ◌&&◌, length, Bool, true, false, IsTrue, refl, sym, ap, subst, ◌∙◌, arith}
use Rattle.std.proofs.lemmas.List.{append-nil, append_cancel_left, append_assoc, length-append}
use Rattle.std.proofs.lemmas.Option.{slice_get_within}
use Rattle.gil_values.specs.Pure.{PureValue, symbol}
use Rattle.gil_machine.specs.State.{State}
use Rattle.pure_terms.specs.declared.variables.Sort.{Sort}
use Rattle.pure_terms.specs.Meaning.{truth, all_true, IsProper, IsOver, Satisfies}
use Rattle.pure_terms.specs.Pure.{PureAtom, term_of}
use Rattle.pure_terms.proofs.VariableLaws.{slice_get-append}
use Rattle.sym_step.specs.Runs.{draw_count}
use Rattle.sym_model.specs.Lists.{Each}
use Rattle.sym_paths.specs.Pure.{PurePath}
use Rattle.sym_paths.specs.Steps.{AreNext, Extends, counter_after, draws_after, counter_past, draws_past, drawn_from, fresh_count}
use Rattle.sym_paths.proofs.Growing.{all_true-more}
use Rattle.sym_paths.proofs.Recording.{past_is, fresh_append}
use Rattle.sym_paths.proofs.Valuations.{variables_follow_in_turn}

-- ---- counters

draws_append : (xs ys : List Sort) (n : ℕ) → draws_past (xs ++ ys) n ≡ draws_past ys (draws_past xs n)
draws_append [] ys n = refl
draws_append (x ∷ xs) ys n = draws_append xs ys (draws_after x n)

draws_more : (x : Sort) (n k : ℕ) → draws_after x (n + k) ≡ n + draws_after x k
draws_more Sort.Fresh n k = refl
draws_more x n k = omega arith

draws_past_more : (xs : List Sort) (n k : ℕ) → draws_past xs (n + k) ≡ n + draws_past xs k
draws_past_more [] n k = refl
draws_past_more (x ∷ xs) n k = ap (draws_past xs) (draws_more x n k) ∙ draws_past_more xs n (draws_after x k)

pub draws_past_is : (xs : List Sort) (n : ℕ) → draws_past xs n ≡ n + draw_count xs
draws_past_is xs n = let same : n ≡ n + 0 = omega arith in ap (draws_past xs) same ∙ draws_past_more xs n 0

pub draw_append : (xs ys : List Sort) → draw_count (xs ++ ys) ≡ draw_count xs + draw_count ys
draw_append xs ys = draws_append xs ys 0 ∙ draws_past_is ys (draw_count xs)

pub drawn_length : (k : ℕ) (xs : List Sort) → length (drawn_from k xs) ≡ draw_count xs
drawn_length k [] = refl
drawn_length k (Sort.Fresh ∷ xs) = drawn_length (suc k) xs
drawn_length k (x ∷ xs) = let later : length (drawn_from (suc k) xs) ≡ draw_count xs = drawn_length (suc k) xs in let past : draws_past xs 1 ≡ 1 + draw_count xs = draws_past_is xs 1 in omega (arith, later, past)

-- ---- values in turn

pub same_length : (inputs : List PureValue) (n d : ℕ) (xs : List Sort) (ws : List PureValue) → AreNext inputs n d xs ws → length ws ≡ length xs
same_length inputs n d [] [] are = refl
same_length inputs n d (x ∷ xs) (w ∷ ws) are = ap suc (same_length inputs (counter_after x n) (draws_after x d) xs ws are.1)
same_length inputs n d [] (w ∷ ws) are = absurd are
same_length inputs n d (x ∷ xs) [] are = absurd are

-- the values of the first new variables, and of those after them
pub record InTwo (inputs : List PureValue) (n d : ℕ) (xs ys : List Sort) (ws : List PureValue) : Type 0 where
  pub first : List PureValue
  pub second : List PureValue
  pub both : ws ≡ first ++ second
  pub first_next : AreNext inputs n d xs first
  pub second_next : AreNext inputs (counter_past xs n) (draws_past xs d) ys second

pub in_two : (inputs : List PureValue) (n d : ℕ) (xs ys : List Sort) (ws : List PureValue) → AreNext inputs n d (xs ++ ys) ws → InTwo inputs n d xs ys ws
in_two inputs n d [] ys ws are = record { first = []; second = ws; both = refl; first_next = tt; second_next = are }
in_two inputs n d (x ∷ xs) ys [] are = absurd are
in_two inputs n d (x ∷ xs) ys (w ∷ ws) are =
    let later = in_two inputs (counter_after x n) (draws_after x d) xs ys ws are.1 in
    record {
      first = w ∷ later.first;
      second = later.second;
      both = ap (λ us. w ∷ us) later.both;
      first_next = (are.0, later.first_next);
      second_next = later.second_next;
    }

-- ---- valuations of a part of the table

pub proper_part : (vars more : List Sort) (v ws : List PureValue) → length v ≡ length vars → IsProper (vars ++ more) (v ++ ws) → IsProper vars v
proper_part vars more v ws one_each proper = record {
  one_each = one_each;
  sorts = λ x s w in_table at. proper.sorts x s w (slice_get-append vars more x (slice_get_within vars x s in_table) ∙ in_table) (slice_get-append v ws x (slice_get_within v x w at) ∙ at);
  fresh = λ x y n w in_table at less at_y.
      proper.fresh x y n w (slice_get-append vars more x (slice_get_within vars x Sort.Fresh in_table) ∙ in_table)
      (slice_get-append v ws x (slice_get_within v x (symbol n) at) ∙ at) less (slice_get-append v ws y (slice_get_within v y w at_y) ∙ at_y);
}

and_part : (b c d : Bool) → IsTrue (b && c) → (IsTrue c → IsTrue d) → IsTrue (b && d)
and_part true c d all f = f all
and_part false c d all f = all

all_part : (v : List PureValue) (atoms more : List PureAtom) → IsTrue (all_true v (atoms ++ more)) → IsTrue (all_true v atoms)
all_part v [] more all = refl
all_part v (a ∷ atoms) more all = and_part (truth v a) (all_true v (atoms ++ more)) (all_true v atoms) all (all_part v atoms more)

pub meets_part : (vars more : List Sort) (v ws : List PureValue) (atoms later : List PureAtom) → length v ≡ length vars → Each (λ a. IsOver vars (term_of a)) atoms
    → Satisfies (vars ++ more) (v ++ ws) (atoms ++ later) → Satisfies vars v atoms
meets_part vars more v ws atoms later one_each over meets = record {
  proper = proper_part vars more v ws one_each meets.proper;
  true_there = subst IsTrue (all_true-more vars v ws one_each atoms over) (all_part (v ++ ws) atoms later meets.true_there);
}

-- ---- longer and shorter paths

-- a counter that rose by the new fresh variables
pub counter_at : (n m : ℕ) (vars all sorts : List Sort) → all ≡ vars ++ sorts → m + fresh_count vars ≡ n + fresh_count all → counter_past sorts n ≡ m
counter_at n m vars all sorts is symbols =
    let counted : fresh_count all ≡ fresh_count vars + fresh_count sorts = ap fresh_count is ∙ fresh_append vars sorts in
    let past : counter_past sorts n ≡ n + fresh_count sorts = past_is sorts n in
    omega (arith, counted, past, symbols)

pub draws_at : (n m : ℕ) (vars all sorts : List Sort) → all ≡ vars ++ sorts → m + draw_count vars ≡ n + draw_count all → draws_past sorts n ≡ m
draws_at n m vars all sorts is draws =
    let counted : draw_count all ≡ draw_count vars + draw_count sorts = ap draw_count is ∙ draw_append vars sorts in
    let past : draws_past sorts n ≡ n + draw_count sorts = draws_past_is sorts n in
    omega (arith, counted, past, draws)

no_values : (inputs : List PureValue) (n d : ℕ) (ws : List PureValue) → AreNext inputs n d [] ws → ws ≡ []
no_values inputs n d [] are = refl
no_values inputs n d (w ∷ ws) are = absurd are

module _ {S : Type 0} (inputs : List PureValue) (s0 : State) (start path next : PurePath S) (v0 : List PureValue) where
  pub both_extend : (v w : List PureValue) (s : State) → (first : Extends inputs s0 start path v0 v) → Extends inputs s path next v w
      → counter_past first.new_vars s0.counter ≡ s.counter → draws_past first.new_vars s0.draws ≡ s.draws → Extends inputs s0 start next v0 w
  both_extend v w s first second counter draws = record {
    new_vars = first.new_vars ++ second.new_vars;
    new_values = first.new_values ++ second.new_values;
    vars = second.vars ∙ ap (λ xs. xs ++ second.new_vars) first.vars ∙ append_assoc start.vars first.new_vars second.new_vars;
    values = second.values ∙ ap (λ xs. xs ++ second.new_values) first.values ∙ append_assoc v0 first.new_values second.new_values;
    in_turn = variables_follow_in_turn inputs s0.counter s0.draws first.new_vars second.new_vars first.new_values second.new_values first.in_turn
        (subst (λ d. AreNext inputs (counter_past first.new_vars s0.counter) d second.new_vars second.new_values) (sym draws)
        (subst (λ n. AreNext inputs n s.draws second.new_vars second.new_values) (sym counter) second.in_turn));
  }

  -- the valuation in two parts, the first for the shorter path
  pub record Shorter (sorts : List Sort) (v : List PureValue) : Type 0 where
    pub valuation : List PureValue
    pub extends : Extends inputs s0 start path v0 valuation
    pub more : List PureValue
    pub both : v ≡ valuation ++ more
    pub later : AreNext inputs (counter_past extends.new_vars s0.counter) (draws_past extends.new_vars s0.draws) sorts more
    pub one_each : length valuation ≡ length path.vars

  new_vars_are : (first sorts : List Sort) (v : List PureValue) → path.vars ≡ start.vars ++ first → next.vars ≡ path.vars ++ sorts → (ext : Extends inputs s0 start next v0 v)
      → ext.new_vars ≡ first ++ sorts
  new_vars_are first sorts v earlier later ext =
      append_cancel_left start.vars ext.new_vars (first ++ sorts) (sym ext.vars ∙ later ∙ ap (λ xs. xs ++ sorts) earlier ∙ append_assoc start.vars first sorts)

  lengths : (vars first : List Sort) (ws : List PureValue) → length v0 ≡ length start.vars → vars ≡ start.vars ++ first → length ws ≡ length first → length (v0 ++ ws) ≡ length vars
  lengths vars first ws at_start is same =
      let left : length (v0 ++ ws) ≡ length v0 + length ws = length-append v0 ws in
      let right : length vars ≡ length start.vars + length first = ap length is ∙ length-append start.vars first in
      omega (arith, left, right, at_start, same)

  pub shorter : (first sorts : List Sort) (v : List PureValue) → length v0 ≡ length start.vars → path.vars ≡ start.vars ++ first → next.vars ≡ path.vars ++ sorts
      → Extends inputs s0 start next v0 v → Shorter sorts v
  shorter first sorts v at_start earlier later ext =
      let two = in_two inputs s0.counter s0.draws first sorts ext.new_values
      (subst (λ xs. AreNext inputs s0.counter s0.draws xs ext.new_values) (new_vars_are first sorts v earlier later ext) ext.in_turn) in
      record {
        valuation = v0 ++ two.first;
        extends = record { new_vars = first; new_values = two.first; vars = earlier; values = refl; in_turn = two.first_next };
        more = two.second;
        both = ext.values ∙ ap (λ xs. v0 ++ xs) two.both ∙ sym (append_assoc v0 two.first two.second);
        later = two.second_next;
        one_each = lengths path.vars first two.first at_start earlier (same_length inputs s0.counter s0.draws first two.first two.first_next);
      }

-- a path that extends itself by nothing
pub same_valuation : {S : Type 0} (inputs : List PureValue) (s : State) (path : PurePath S) (v w : List PureValue) → Extends inputs s path path v w → w ≡ v
same_valuation inputs s path v w ext =
    let none : ext.new_vars ≡ [] = append_cancel_left path.vars ext.new_vars [] (sym ext.vars ∙ sym (append-nil path.vars)) in
    ext.values ∙ ap (λ xs. v ++ xs) (no_values inputs s.counter s.draws ext.new_values (subst (λ xs. AreNext inputs s.counter s.draws xs ext.new_values) none ext.in_turn)) ∙ append-nil v
