-- Where parts of a term are replaced, the term is.
use Rattle.std.proofs.Common.{◌≡◌, ⊎_elim, inl, inr, ◌<◌, List, ◌++◌, true, ◌&&◌, Option, Some, None, refl, sym, ap, ◌∙◌, arith, true≢false}
use Rattle.std.specs.List.{Contains}
use Rattle.std.specs.Option.{option_and_then, option_map}
use Rattle.std.specs.Result.{result_ok}
use Rattle.std.proofs.lemmas.Bool.{and_parts, and_from}
use Rattle.std.proofs.lemmas.List.Elements.{Contains-append_cases, Contains-append_left, Contains-append_right}
use Rattle.gil_values.specs.declared.operators.UnOp.{UnOp}
use Rattle.gil_values.specs.declared.operators.BinOp.{BinOp}
use Rattle.gil_values.specs.Operators.{unary, binary}
use Rattle.pure_terms.specs.declared.variables.Sort.{Sort}
use Rattle.pure_terms.specs.declared.variables.Var.{Var}
use Rattle.pure_terms.specs.Fragment.{is_simple, is_shift, is_variable_of, is_integer_literal}
use Rattle.pure_terms.specs.Meaning.{value}
use Rattle.pure_terms.specs.Pure.{PureTerm, literal, variable, list_of, unary_of, binary_of, size, variables}
use Rattle.pure_terms.specs.Rewriting.{Replaces, IsSameOrSmaller}
use Rattle.pure_terms.proofs.KindLaws.{over_left, over_right}
use Rattle.sym_model.proofs.ListLaws.{same_some, not_none}

pub replaces_itself : (t : PureTerm) → Replaces t t
replaces_itself t = record { value_kept = λ vars v w proper over is. is; no_more_names = λ x has. has; simple_stays = λ simple. simple; no_larger = inl refl }

-- ---- operators

pub some_of : {A B : Type 0} (f : A → Option B) (o : Option A) (b : B) → option_and_then f o ≡ Some b → (a : A) × ((o ≡ Some a) × (f a ≡ Some b))
some_of f (Some a) b is = (a, (refl, is))
some_of f None b is = not_none is

pub some_mapped : {A B : Type 0} (f : A → B) (o : Option A) (b : B) → option_map f o ≡ Some b → (a : A) × ((o ≡ Some a) × (f a ≡ b))
some_mapped f (Some a) b is = (a, (refl, same_some is))
some_mapped f None b is = not_none is

unary_smaller : (op : UnOp) (t u : PureTerm) → IsSameOrSmaller t u → IsSameOrSmaller (unary_of op t) (unary_of op u)
unary_smaller op t u (inl same) = inl (ap (unary_of op) same)
unary_smaller op t u (inr less) = inr (omega (arith, less))

pub replaces_operand : (op : UnOp) (t u : PureTerm) → Replaces t u → Replaces (unary_of op t) (unary_of op u)
replaces_operand op t u is = record {
  value_kept = λ vars v w proper over whole.
      let (a, (inner, outer)) = some_of (λ a. result_ok (unary op a)) (value v t) w whole in
      ap (option_and_then (λ a. result_ok (unary op a))) (is.value_kept vars v a proper over inner) ∙ outer;
  no_more_names = is.no_more_names;
  simple_stays = λ simple. absurd (true≢false (sym simple));
  no_larger = unary_smaller op t u is.no_larger;
}

pub positive_size : (t : PureTerm) → 0 < size t
positive_size (literal l) = omega arith
positive_size (variable x) = omega arith
positive_size (list_of ts) = omega arith
positive_size (unary_of op t) = omega arith
positive_size (binary_of op s t) = omega arith

variable_stays : (s : Sort) (t u : PureTerm) → is_variable_of s t ≡ true → IsSameOrSmaller t u → is_variable_of s u ≡ true
variable_stays s (variable x) u is (inl same) = ap (is_variable_of s) same ∙ is
variable_stays s (variable x) u is (inr less) = absurd (omega (arith, less, positive_size u))
variable_stays s (literal l) u is smaller = absurd (true≢false (sym is))
variable_stays s (list_of ts) u is smaller = absurd (true≢false (sym is))
variable_stays s (unary_of op t) u is smaller = absurd (true≢false (sym is))
variable_stays s (binary_of op t w) u is smaller = absurd (true≢false (sym is))

literal_stays : (t u : PureTerm) → is_integer_literal t ≡ true → IsSameOrSmaller t u → is_integer_literal u ≡ true
literal_stays (literal l) u is (inl same) = ap is_integer_literal same ∙ is
literal_stays (literal l) u is (inr less) = absurd (omega (arith, less, positive_size u))
literal_stays (variable x) u is smaller = absurd (true≢false (sym is))
literal_stays (list_of ts) u is smaller = absurd (true≢false (sym is))
literal_stays (unary_of op t) u is smaller = absurd (true≢false (sym is))
literal_stays (binary_of op t w) u is smaller = absurd (true≢false (sym is))

binary_smaller : (op : BinOp) (s t p q : PureTerm) → IsSameOrSmaller s p → IsSameOrSmaller t q → IsSameOrSmaller (binary_of op s t) (binary_of op p q)
binary_smaller op s t p q (inl same) (inl also) = inl (λ i. binary_of op (same i) (also i))
binary_smaller op s t p q (inl same) (inr less) = let e : size p ≡ size s = ap size same in inr (omega (arith, e, less))
binary_smaller op s t p q (inr less) (inl also) = let e : size q ≡ size t = ap size also in inr (omega (arith, e, less))
binary_smaller op s t p q (inr less) (inr more) = inr (omega (arith, less, more))

joined_names : (xs ys us ws : List Var) → ((x : Var) → Contains us x → Contains xs x) → ((x : Var) → Contains ws x → Contains ys x) → (x : Var) → Contains (us ++ ws) x → Contains (xs ++ ys) x
joined_names xs ys us ws first second x has =
    ⊎_elim (λ left. Contains-append_left xs ys x (first x left)) (λ right. Contains-append_right xs ys x (second x right)) (Contains-append_cases us ws x has)

shift_stays : (op : BinOp) (s t p q : PureTerm) → IsSameOrSmaller s p → IsSameOrSmaller t q → is_simple (binary_of op s t) ≡ true → is_simple (binary_of op p q) ≡ true
shift_stays op s t p q first second simple =
    let (shift, operands) = and_parts (is_shift op) (is_variable_of Sort.Int s && is_integer_literal t) simple in
    let (left, right) = and_parts (is_variable_of Sort.Int s) (is_integer_literal t) operands in
    and_from (is_shift op) (is_variable_of Sort.Int p && is_integer_literal q) shift (and_from (is_variable_of Sort.Int p) (is_integer_literal q) (variable_stays Sort.Int s p left first) (literal_stays t q right second))

pub replaces_operands : (op : BinOp) (s t p q : PureTerm) → Replaces s p → Replaces t q → Replaces (binary_of op s t) (binary_of op p q)
replaces_operands op s t p q first second = record {
  value_kept = λ vars v w proper over whole.
      let (a, (left, rest)) = some_of (λ a. option_and_then (λ b. result_ok (binary op a b)) (value v t)) (value v s) w whole in
      let (b, (right, outer)) = some_of (λ b. result_ok (binary op a b)) (value v t) w rest in
      (λ i. option_and_then (λ a. option_and_then (λ b. result_ok (binary op a b)) (second.value_kept vars v b proper (over_right vars (variables s) (variables t) over) right i)) (first.value_kept vars v a proper (over_left vars (variables s) (variables t) over) left i)) ∙ outer;
  no_more_names = joined_names (variables s) (variables t) (variables p) (variables q) first.no_more_names second.no_more_names;
  simple_stays = shift_stays op s t p q first.no_larger second.no_larger;
  no_larger = binary_smaller op s t p q first.no_larger second.no_larger;
}
