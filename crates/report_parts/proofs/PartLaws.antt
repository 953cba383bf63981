-- Parts of answers that were printed are read again.
use Rattle.std.proofs.Common.{◌≡◌, ◌⊎◌, ℕ, ◌<◌, ◌^◌, Bool, true, false, ◌||◌, eqb, List, [], ◌∷◌, ◌++◌, Option, Some, None, refl, sym, ap, ◌∙◌, arith, append_assoc, inl, inr}
use Rattle.std.specs.Prelude.{codes}
use Rattle.std.specs.Char.{is_ascii_digit}
use Rattle.std.specs.List.{AllByRecursion, list_all}
use Rattle.std.proofs.lemmas.Bool.{true≢false, and_parts, cases_Bool, eqb-true}
use Rattle.gil_values.specs.declared.kinds.Kind.{Kind}
use Rattle.gil_values.specs.declared.kinds.Kind.TheVariants as kinds
use Rattle.gil_values.specs.declared.operators.UnOp.TheVariants as unary
use Rattle.gil_values.specs.declared.operators.BinOp.TheVariants as binary
use Rattle.gil_values.specs.declared.places.Place.{Place}
use Rattle.gil_values.specs.Pieces.{printed_place}
use Rattle.gil_values.specs.Printed.{numeral, printed_value, kind_name, signed_numeral}
use Rattle.gil_values.specs.Pure.{PureValue, integer, boolean, text, symbol, kind, procedure, list}
use Rattle.gil_lexer.specs.Bytes.{begins, is_name_byte}
use Rattle.pure_terms.specs.declared.variables.Sort.{Sort}
use Rattle.pure_terms.specs.declared.variables.Sort.TheVariants as sorts
use Rattle.gil_syntax.specs.Pure.{PureExpr, literal, name, logical, list_of, unary_of, binary_of}
use Rattle.syntax_print.specs.Expressions.{printed_expr}
use Rattle.value_text.specs.Laws.{EndsWord}
use Rattle.value_text.specs.Reading.{behind, natural_at, bracketed_at}
use Rattle.value_text.specs.Writable.{IsWritableValue}
use Rattle.value_text.proofs.NumberLaws.{first_not, integer_first_not, natural_again, numeral_begins}
use Rattle.value_text.proofs.TextLaws.{name_again}
use Rattle.value_text.proofs.ValueLaws.{values_again, digit_ends}
use Rattle.value_text.proofs.WordLaws.{behind_again}
use Rattle.list_text.proofs.ListLaws.{EndsElement, IsReadAgain, bracketed_again, comma_or_bracket, element_ends}
use Rattle.expression_text.specs.Writable.{IsWritableExpr}
use Rattle.expression_text.proofs.ExpressionLaws.{expressions_again, marked_again, name_first_not, open_expression}
use Rattle.gil_report.specs.declared.answers.Lack.{Lack}
use Rattle.gil_report.specs.declared.answers.Lack.TheVariants as wants
use Rattle.gil_report.specs.Lines.{printed_cause, printed_question, printed_witness}
use Rattle.gil_report.specs.Printed.{bracketed, lack_word, printed_binding, printed_condition, printed_sort}
use Rattle.gil_report.specs.Pure.{PureBinding, PureCondition, holds, has_value, PureQuestion, PureWitness, PureCause, fails, lacks, undecided_cause, depends}
use Rattle.report_parts.specs.Reading.{place_at, sort_at, choices_at, sorts_at, variable_at, binding_at, bindings_at, open_at, condition_at, conditions_at, question_at, witness_at, fails_at, undecided_at, depends_at, lack_at, lacks_at, cause_at}
use Rattle.report_parts.specs.Writable.{IsWritablePlace, IsVariableName, IsWritableBinding, IsWritableCondition, IsChoice, IsWritableQuestion, IsWritableWitness, IsWritableCause}

-- ---- places

pub small_again : (n : ℕ) (rest : List ℕ) → n < 2 ^ 32 → begins is_ascii_digit rest ≡ false → natural_at 32 (numeral n ++ rest) ≡ Some (n, rest)
small_again n rest small stops = natural_again 32 n rest small (omega arith) stops

three : (a b c rest : List ℕ) → ((a ++ b) ++ c) ++ rest ≡ a ++ (b ++ (c ++ rest))
three a b c rest = simp append_assoc

place_parts : (x rest : List ℕ) (n : ℕ) → IsWritablePlace (record { proc = x; at = n }) → begins is_ascii_digit rest ≡ false
    → place_at (x ++ (58 ∷ (numeral n ++ rest))) ≡ Some (record { proc = x; at = n }, rest)
unfolding place_at
place_parts x rest n is stops =
    rw (name_again x (58 ∷ (numeral n ++ rest)) is.0 refl, behind_again (58 ∷ []) (numeral n ++ rest), small_again n rest is.1 stops) refl

pub place_again : (p : Place) (rest : List ℕ) → IsWritablePlace p → begins is_ascii_digit rest ≡ false → place_at (printed_place p ++ rest) ≡ Some (p, rest)
place_again p rest is stops = ap place_at (three p.proc (58 ∷ []) (numeral p.at) rest) ∙ place_parts p.proc rest p.at is stops

-- ---- elements of lists

choice_again : (n : ℕ) → IsChoice n → IsReadAgain (natural_at 64) numeral n
choice_again n small = record {
  again = λ rest ends. natural_again 64 n rest small (omega arith) (digit_ends rest (element_ends rest ends));
  opens = λ rest. first_not 93 (numeral n) rest (numeral_begins n) refl;
}

sort_read : (s : Sort) (rest : List ℕ) → sort_at (printed_sort s ++ rest) ≡ Some (s, rest)
unfolding behind
sort_read sorts.Int rest = refl
sort_read sorts.Bool rest = refl
sort_read sorts.Str rest = refl
sort_read sorts.Sym rest = refl
sort_read sorts.List rest = refl
sort_read sorts.Any rest = refl
sort_read sorts.Fresh rest = refl

sort_opens : (s : Sort) (rest : List ℕ) → begins (λ b. eqb b 93) (printed_sort s ++ rest) ≡ false
sort_opens sorts.Int rest = refl
sort_opens sorts.Bool rest = refl
sort_opens sorts.Str rest = refl
sort_opens sorts.Sym rest = refl
sort_opens sorts.List rest = refl
sort_opens sorts.Any rest = refl
sort_opens sorts.Fresh rest = refl

sort_again : (s : Sort) → IsReadAgain sort_at printed_sort s
sort_again s = record { again = λ rest ends. sort_read s rest; opens = λ rest. sort_opens s rest }

variable_again : (x rest : List ℕ) → IsVariableName x → EndsWord rest → variable_at (x ++ rest) ≡ Some (x, rest)
variable_again x rest (inl named) ends = rw (name_first_not 35 x rest named refl) (name_again x rest named ends)
variable_again x rest (inr (inner, named, is)) ends = rw is (marked_again inner rest named ends)

variable_opens : (x rest : List ℕ) → IsVariableName x → begins (λ b. eqb b 93) (x ++ rest) ≡ false
variable_opens x rest (inl named) = name_first_not 93 x rest named refl
variable_opens x rest (inr (inner, named, is)) = rw is refl

binding_parts : (b : PureBinding) (rest : List ℕ) → IsWritableBinding b → EndsWord rest
    → binding_at (b.name ++ (codes " = " ++ (printed_value b.value ++ rest))) ≡ Some (b, rest)
unfolding binding_at
binding_parts b rest is ends =
    let a = printed_value b.value ++ rest in
    rw (variable_again b.name (codes " = " ++ a) is.0 refl, behind_again (codes " = ") a, values_again b.value rest is.1 ends) refl

binding_first : (b : PureBinding) (rest : List ℕ) → IsWritableBinding b → begins (λ c. eqb c 93) (printed_binding b ++ rest) ≡ false
binding_first b rest is = rw (three b.name (codes " = ") (printed_value b.value) rest) (variable_opens b.name (codes " = " ++ (printed_value b.value ++ rest)) is.0)

binding_again : (b : PureBinding) → IsWritableBinding b → IsReadAgain binding_at printed_binding b
binding_again b is = record {
  again = λ rest ends. ap binding_at (three b.name (codes " = ") (printed_value b.value) rest) ∙ binding_parts b rest is (element_ends rest ends);
  opens = λ rest. binding_first b rest is;
}

-- ---- no expression begins as the condition does that it has a value

module _ (c : ℕ) (word : List ℕ) where
  pub other_first : (bytes : List ℕ) → begins (λ b. eqb b c) bytes ≡ false → behind (c ∷ word) bytes ≡ None
  unfolding behind
  other_first [] e = refl
  other_first (b ∷ bytes) e = rw e refl

name_byte_apart : (b c : ℕ) → is_name_byte b ≡ true → is_name_byte c ≡ false → eqb b c ≡ false
name_byte_apart b c e apart =
    elim (cases_Bool (eqb b c)) [
      | inl same ↦ absurd (true≢false (sym e ∙ ap is_name_byte (eqb-true b c same) ∙ apart))
      | inr other ↦ other
    ]

apart_name_byte : (b c : ℕ) → is_name_byte b ≡ false → is_name_byte c ≡ true → eqb b c ≡ false
apart_name_byte b c apart e =
    elim (cases_Bool (eqb b c)) [
      | inl same ↦ absurd (true≢false (sym e ∙ ap is_name_byte (sym (eqb-true b c same)) ∙ apart))
      | inr other ↦ other
    ]

-- a name with another byte behind it doesn't begin with this one and the byte that stops it
pub name_apart : (stop : ℕ) (word x rest : List ℕ) → list_all is_name_byte word ≡ true → list_all is_name_byte x ≡ true → is_name_byte stop ≡ false
    → begins is_name_byte rest ≡ false → begins (λ b. eqb b stop) rest ≡ false → behind (word ++ stop ∷ []) (x ++ rest) ≡ None
unfolding behind
name_apart stop [] [] [] all named stops ends other = refl
name_apart stop [] [] (b ∷ rest) all named stops ends other = rw other refl
name_apart stop [] (b ∷ x) rest all named stops ends other = rw (name_byte_apart b stop (and_parts _ _ named).0 stops) refl
name_apart stop (c ∷ word) [] [] all named stops ends other = refl
name_apart stop (c ∷ word) [] (b ∷ rest) all named stops ends other = rw (apart_name_byte b c ends (and_parts _ _ all).0) refl
name_apart stop (c ∷ word) (b ∷ x) rest all named stops ends other =
    elim (cases_Bool (eqb b c)) [
      | inl same ↦ rw same (name_apart stop word x rest (and_parts _ _ all).1 (and_parts _ _ named).1 stops ends other)
      | inr different ↦ rw different refl
    ]

no_parenthesis : (rest : List ℕ) → EndsElement rest → begins (λ b. eqb b 40) rest ≡ false
no_parenthesis [] ends = refl
no_parenthesis (b ∷ rest) ends = comma_or_bracket b (λ c. eqb c 40 ≡ false) ends refl refl

kind_no_open : (k : Kind) (rest : List ℕ) → behind (codes "open(") (kind_name k ++ rest) ≡ None
unfolding behind
kind_no_open kinds.Int rest = refl
kind_no_open kinds.Bool rest = refl
kind_no_open kinds.Str rest = refl
kind_no_open kinds.Sym rest = refl
kind_no_open kinds.Kind rest = refl
kind_no_open kinds.Proc rest = refl
kind_no_open kinds.List rest = refl
kind_no_open kinds.Undef rest = refl
kind_no_open kinds.Null rest = refl

value_no_open : (v : PureValue) (rest : List ℕ) → behind (codes "open(") (printed_value v ++ rest) ≡ None
unfolding behind
value_no_open (integer n) rest = other_first 111 (codes "pen(") (signed_numeral n ++ rest) (integer_first_not 111 n rest refl refl)
value_no_open (boolean true) rest = refl
value_no_open (boolean false) rest = refl
value_no_open (text cs) rest = refl
value_no_open (symbol n) rest = refl
value_no_open (kind k) rest = kind_no_open k rest
value_no_open (procedure x) rest = refl
value_no_open (list vs) rest = refl

no_open : (e : PureExpr) (rest : List ℕ) → IsWritableExpr e → EndsElement rest → behind (codes "open(") (printed_expr e ++ rest) ≡ None
unfolding behind
no_open (literal v) rest is ends = value_no_open v rest
no_open (name x) rest is ends = name_apart 40 (codes "open") x rest refl is.0.1 refl (element_ends rest ends) (no_parenthesis rest ends)
no_open (logical x) rest (inner, named, is) ends = rw is refl
no_open (list_of es) rest is ends = refl
no_open (unary_of unary.Not e) rest is ends = refl
no_open (unary_of unary.Neg e) rest is ends = refl
no_open (unary_of unary.Len e) rest is ends = refl
no_open (unary_of unary.Kind e) rest is ends = refl
no_open (binary_of binary.Add d e) rest is ends = refl
no_open (binary_of binary.Subtract d e) rest is ends = refl
no_open (binary_of binary.Multiply d e) rest is ends = refl
no_open (binary_of binary.Divide d e) rest is ends = refl
no_open (binary_of binary.Remainder d e) rest is ends = refl
no_open (binary_of binary.Equal d e) rest is ends = refl
no_open (binary_of binary.Less d e) rest is ends = refl
no_open (binary_of binary.LessOrEqual d e) rest is ends = refl
no_open (binary_of binary.And d e) rest is ends = refl
no_open (binary_of binary.Or d e) rest is ends = refl
no_open (binary_of binary.Append d e) rest is ends = refl
no_open (binary_of binary.Nth d e) rest is ends = refl

holds_read : (e : PureExpr) (rest : List ℕ) → IsWritableExpr e → EndsElement rest → condition_at (printed_expr e ++ rest) ≡ Some (holds e, rest)
holds_read e rest is ends = rw (no_open e rest is ends, expressions_again e rest is (element_ends rest ends)) refl

open_read : (e : PureExpr) (rest : List ℕ) → IsWritableExpr e → open_at (printed_expr e ++ (41 ∷ rest)) ≡ Some (has_value e, rest)
unfolding open_at
open_read e rest is = rw (expressions_again e (41 ∷ rest) is refl, behind_again (41 ∷ []) rest) refl

open_heading : (t : List ℕ) → condition_at (codes "open(" ++ t) ≡ open_at t
unfolding behind
open_heading t = refl

condition_again : (k : PureCondition) → IsWritableCondition k → IsReadAgain condition_at printed_condition k
condition_again (holds e) is = record {
  again = λ rest ends. holds_read e rest is ends;
  opens = λ rest. open_expression e rest is;
}
condition_again (has_value e) is = record {
  again = λ rest ends. open_heading ((printed_expr e ++ codes ")") ++ rest) ∙ ap open_at (append_assoc (printed_expr e) (codes ")") rest) ∙ open_read e rest is;
  opens = λ rest. refl;
}

-- ---- lists

each : {X : Type 0} (P Q : X → Type 0) (step : (x : X) → P x → Q x) (xs : List X) → AllByRecursion P xs → AllByRecursion Q xs
each P Q step [] all = tt
each P Q step (x ∷ xs) all = (step x all.0, each P Q step xs all.1)

all_sorts : (xs : List Sort) → AllByRecursion (IsReadAgain sort_at printed_sort) xs
all_sorts [] = tt
all_sorts (s ∷ xs) = (sort_again s, all_sorts xs)

choices_again : (ns : List ℕ) (rest : List ℕ) → AllByRecursion IsChoice ns → choices_at (bracketed numeral ns ++ rest) ≡ Some (ns, rest)
choices_again ns rest all = bracketed_again (natural_at 64) numeral ns rest (each IsChoice (IsReadAgain (natural_at 64) numeral) choice_again ns all)

sorts_again : (ss : List Sort) (rest : List ℕ) → sorts_at (bracketed printed_sort ss ++ rest) ≡ Some (ss, rest)
sorts_again ss rest = bracketed_again sort_at printed_sort ss rest (all_sorts ss)

pub bindings_again : (bs : List PureBinding) (rest : List ℕ) → AllByRecursion IsWritableBinding bs → bindings_at (bracketed printed_binding bs ++ rest) ≡ Some (bs, rest)
bindings_again bs rest all = bracketed_again binding_at printed_binding bs rest (each IsWritableBinding (IsReadAgain binding_at printed_binding) binding_again bs all)

conditions_again : (ks : List PureCondition) (rest : List ℕ) → AllByRecursion IsWritableCondition ks → conditions_at (bracketed printed_condition ks ++ rest) ≡ Some (ks, rest)
conditions_again ks rest all =
    bracketed_again condition_at printed_condition ks rest (each IsWritableCondition (IsReadAgain condition_at printed_condition) condition_again ks all)

-- ---- questions and witnesses

pub eleven : (a b c d e f g h i j k rest : List ℕ)
    → ((((((((((a ++ b) ++ c) ++ d) ++ e) ++ f) ++ g) ++ h) ++ i) ++ j) ++ k) ++ rest
    ≡ a ++ (b ++ (c ++ (d ++ (e ++ (f ++ (g ++ (h ++ (i ++ (j ++ (k ++ rest))))))))))
eleven a b c d e f g h i j k rest = simp append_assoc

five : (a b c d e rest : List ℕ) → ((((a ++ b) ++ c) ++ d) ++ e) ++ rest ≡ a ++ (b ++ (c ++ (d ++ (e ++ rest))))
five a b c d e rest = simp append_assoc

question_parts : (o : PureQuestion) (rest : List ℕ) → IsWritableQuestion o → begins is_ascii_digit rest ≡ false
    → question_at (printed_place o.place ++ (codes " path " ++ (bracketed numeral o.path ++ (codes " vars " ++ (bracketed printed_sort o.vars
    ++ (codes " given " ++ (bracketed printed_condition o.given ++ (codes " query " ++ (bracketed printed_condition o.query
    ++ (codes " outside " ++ (numeral o.outside ++ rest))))))))))) ≡ Some (o, rest)
unfolding question_at
question_parts o rest is stops =
    let a = numeral o.outside ++ rest in
    let b = bracketed printed_condition o.query ++ (codes " outside " ++ a) in
    let c = bracketed printed_condition o.given ++ (codes " query " ++ b) in
    let d = bracketed printed_sort o.vars ++ (codes " given " ++ c) in
    let e = bracketed numeral o.path ++ (codes " vars " ++ d) in
    rw (
      place_again o.place (codes " path " ++ e) is.place refl,
      behind_again (codes " path ") e,
      choices_again o.path (codes " vars " ++ d) is.path,
      behind_again (codes " vars ") d,
      sorts_again o.vars (codes " given " ++ c),
      behind_again (codes " given ") c,
      conditions_again o.given (codes " query " ++ b) is.given,
      behind_again (codes " query ") b,
      conditions_again o.query (codes " outside " ++ a) is.query,
      behind_again (codes " outside ") a,
      natural_again 64 o.outside rest is.outside (omega (arith, is.outside)) stops,
    ) refl

pub question_again : (o : PureQuestion) (rest : List ℕ) → IsWritableQuestion o → begins is_ascii_digit rest ≡ false → question_at (printed_question o ++ rest) ≡ Some (o, rest)
question_again o rest is stops =
    ap question_at (eleven (printed_place o.place) (codes " path ") (bracketed numeral o.path) (codes " vars ") (bracketed printed_sort o.vars)
    (codes " given ") (bracketed printed_condition o.given) (codes " query ") (bracketed printed_condition o.query) (codes " outside ") (numeral o.outside) rest)
    ∙ question_parts o rest is stops

witness_parts : (w : PureWitness) (rest : List ℕ) → IsWritableWitness w
    → witness_at (printed_place w.place ++ (codes " path " ++ (bracketed numeral w.path ++ (codes " with " ++ (bracketed printed_binding w.with ++ rest))))) ≡ Some (w, rest)
unfolding witness_at
witness_parts w rest is =
    let a = bracketed printed_binding w.with ++ rest in
    let b = bracketed numeral w.path ++ (codes " with " ++ a) in
    rw (
      place_again w.place (codes " path " ++ b) is.place refl,
      behind_again (codes " path ") b,
      choices_again w.path (codes " with " ++ a) is.path,
      behind_again (codes " with ") a,
      bindings_again w.with rest is.with,
    ) refl

witness_again : (w : PureWitness) (rest : List ℕ) → IsWritableWitness w → witness_at (printed_witness w ++ rest) ≡ Some (w, rest)
witness_again w rest is =
    ap witness_at (five (printed_place w.place) (codes " path ") (bracketed numeral w.path) (codes " with ") (bracketed printed_binding w.with) rest) ∙ witness_parts w rest is

-- ---- causes

fails_parts : (v : PureValue) (w : PureWitness) (rest : List ℕ) → IsWritableValue v → IsWritableWitness w
    → fails_at (printed_value v ++ (codes " " ++ (printed_witness w ++ rest))) ≡ Some (fails v w, rest)
unfolding fails_at
fails_parts v w rest is path =
    let a = printed_witness w ++ rest in
    rw (values_again v (codes " " ++ a) is refl, behind_again (codes " ") a, witness_again w rest path) refl

fails_heading : (t : List ℕ) → cause_at (codes "fails " ++ t) ≡ fails_at t
unfolding behind
fails_heading t = refl

undecided_heading : (t : List ℕ) → cause_at (codes "unknown " ++ t) ≡ undecided_at t
unfolding behind
undecided_heading t = refl

depends_heading : (t : List ℕ) → cause_at (codes "depends " ++ t) ≡ depends_at t
unfolding behind
depends_heading t = refl

undecided_parts : (o : PureQuestion) (rest : List ℕ) → IsWritableQuestion o → begins is_ascii_digit rest ≡ false
    → undecided_at (printed_question o ++ rest) ≡ Some (undecided_cause o, rest)
unfolding undecided_at
undecided_parts o rest is stops = rw (question_again o rest is stops) refl

depends_parts : (x rest : List ℕ) → IsWritableCause (depends x) → EndsWord rest → depends_at (x ++ rest) ≡ Some (depends x, rest)
unfolding depends_at
depends_parts x rest is ends = rw (name_again x rest is ends) refl

lack_heading : (lack : Lack) (t : List ℕ) → cause_at (lack_word lack ++ (codes " " ++ t)) ≡ lacks_at (lack_word lack ++ (codes " " ++ t))
unfolding behind
lack_heading wants.Missing t = refl
lack_heading wants.Post t = refl
lack_heading wants.Invariant t = refl
lack_heading wants.CallPre t = refl
lack_heading wants.FoldBody t = refl
lack_heading wants.Cut t = refl

lack_again : (lack : Lack) (t : List ℕ) → lack_at (lack_word lack ++ (codes " " ++ t)) ≡ Some (lack, t)
unfolding behind
lack_again wants.Missing t = refl
lack_again wants.Post t = refl
lack_again wants.Invariant t = refl
lack_again wants.CallPre t = refl
lack_again wants.FoldBody t = refl
lack_again wants.Cut t = refl

lacks_parts : (lack : Lack) (w : PureWitness) (rest : List ℕ) → IsWritableWitness w
    → lacks_at (lack_word lack ++ (codes " " ++ (printed_witness w ++ rest))) ≡ Some (lacks lack w, rest)
unfolding lacks_at
lacks_parts lack w rest is = rw (lack_again lack (printed_witness w ++ rest), witness_again w rest is) refl

pub cause_again : (k : PureCause) (rest : List ℕ) → IsWritableCause k → EndsWord rest → cause_at (printed_cause k ++ rest) ≡ Some (k, rest)
cause_again (fails v w) rest is ends =
    fails_heading (((printed_value v ++ codes " ") ++ printed_witness w) ++ rest)
    ∙ ap fails_at (three (printed_value v) (codes " ") (printed_witness w) rest) ∙ fails_parts v w rest is.0 is.1
cause_again (lacks lack w) rest is ends =
    ap cause_at (three (lack_word lack) (codes " ") (printed_witness w) rest) ∙ lack_heading lack (printed_witness w ++ rest) ∙ lacks_parts lack w rest is
cause_again (undecided_cause o) rest is ends = undecided_heading (printed_question o ++ rest) ∙ undecided_parts o rest is (digit_ends rest ends)
cause_again (depends x) rest is ends = depends_heading (x ++ rest) ∙ depends_parts x rest is ends
