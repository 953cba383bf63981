-- The tests decide what is writable.
use Rattle.std.proofs.Common.{◌≡◌, ◌≢◌, ℕ, ℤ, pos, negsuc, ◌^◌, ◌<◌, ◌≤◌, List, [], ◌∷◌, Bool, true, false, not, ◌&&◌, nat_le, nat_eq, Option, Some, None, Decides, IsTrue, FitsSigned, codes, refl, sym, ap, subst, ◌∙◌, true≢false, arith}
use Rattle.std.specs.List.{list_all, AllByRecursion}
use Rattle.std.specs.Int.{w128}
use Rattle.std.specs.Str.{bytes_eq}
use Rattle.std.proofs.lemmas.Bool.{ltb-true, lt-ltb, leb-true, le-leb}
use Rattle.std.proofs.lemmas.Bool.Decides.{Decides-and, Decides-or, Decides-not, Decides-like, Decides-ltb, Decides-eqb, Decides-by_and}
use Rattle.std.proofs.lemmas.Int.{ints}
use Rattle.std.proofs.lemmas.Option.{same_Some}
use Rattle.std.proofs.lemmas.Slice.Eq.{bytes_eq-Decides}
use Rattle.gil_values.specs.Characters.{IsTextCharacter, IsText}
use Rattle.gil_values.specs.declared.places.Place.{Place}
use Rattle.gil_values.specs.Pure.{PureValue, integer, boolean, text, symbol, kind, procedure, list, PureValues, no_values, value_and}
use Rattle.gil_values.specs.Pure as values
use Rattle.gil_lexer.specs.Bytes.{begins, is_name_start, is_name_byte, hash}
use Rattle.gil_lexer.specs.Reading.{word_of}
use Rattle.gil_lexer.specs.Spelling.{IsName, IsMarkedName}
use Rattle.gil_lexer.specs.Words.{word_bytes}
use Rattle.gil_lexer.specs.declared.words.Word.{Word}
use Rattle.gil_lexer.specs.declared.words.Word.TheVariants as words
use Rattle.gil_lexer.proofs.WordLemmas.{word_of_some, word_of_none, word_of-spelling}
use Rattle.gil_syntax.specs.declared.assertions.Param.{Param}
use Rattle.gil_syntax.specs.Pure.{PureExpr, literal, name, logical, list_of, unary_of, binary_of, PureExprs, no_exprs, expr_and, from_list, PurePredUse, PureItem, pure, uses, PureSpec}
use Rattle.gil_syntax.specs.WellMade.{is_spellable}
use Rattle.solver_proof.specs.declared.proofs.ChainEnd.{ChainEnd}
use Rattle.solver_proof.specs.declared.proofs.Factor.{Factor}
use Rattle.value_text.specs.Writable.{IsWritableValue, AreWritableValues}
use Rattle.expression_text.specs.Writable.{IsVariable, IsWritableExpr, AreWritableExprs}
use Rattle.specification_text.specs.Reading.{may_be_item}
use Rattle.specification_text.specs.Writable.{IsWritableParam, IsWritableLogical, IsWritableUse, IsWritableItem, IsWritableAssertion, IsWritableSpec}
use Rattle.proof_text.specs.Writable.{IsPlaceOfAtom, IsWritableFactor, IsWritableEnd, IsWritableProof, AreWritableProofs}
use Rattle.report_parts.specs.Writable.{IsWritablePlace, IsVariableName, IsWritableBinding, IsWritableCondition, IsChoice, IsWritableQuestion, IsWritableWitness, IsWritableCause}
use Rattle.report_text.specs.Reading.{is_open}
use Rattle.report_text.specs.Writable.{IsWritableHead, IsWritableAnswer, IsWritable}
use Rattle.gil_report.specs.declared.heads.Head.{Head}
use Rattle.gil_report.specs.Pure.{PureNamedProof, sum_of, false_at, chain, cases_of, values_at, parts_apart, parts_at, differ_at, split_on, meet_at}
use Rattle.gil_report.specs.Pure.{PureNamedProofs, no_proofs, proof_and}
use Rattle.gil_report.specs.Pure.{PureBinding, PureCondition, holds, has_value, PureQuestion, PureWitness, PureCause, fails, lacks, undecided_cause, depends}
use Rattle.gil_report.specs.Pure.{PureAnswer, returned, failed, vanished, cut, no_input, bad_input, number, clean, bug, undecided}
use Rattle.gil_report.specs.Pure.{verified, vacuous, unproved, found, sat, unsat, unknown, bytes, PureReport}
use Rattle.writable_reports.specs.Tests.{has_32_bits, has_64_bits, has_128_bits, is_text_character, is_text, is_name, is_logical_name, is_ret, is_free, is_variable, is_variable_name, is_writable_value, are_writable_values, is_writable_expr, are_writable_exprs, is_writable_param, is_writable_logical, is_predicate_name, is_writable_use, is_writable_item, is_writable_assertion, has_writable_names, has_writable_assertions, is_writable_spec, is_writable_factor, is_writable_end, is_writable_proof, are_writable_proofs, is_writable_place, is_writable_binding, is_writable_condition, is_writable_path, is_writable_query, is_writable_question, is_writable_witness, is_writable_cause, is_writable_head, is_marked, is_writable_answer, is_writable}

-- ---- tests

always : Decides true (Unit {0})
always = (λ _. tt, λ _. refl)

is_its_truth : (b : Bool) → Decides b (IsTrue b)
is_its_truth b = (λ t. t, λ t. t)

three : {P Q R : Type 0} (a b c : Bool) → Decides a P → Decides b Q → Decides c R → Decides (a && b && c) (P × Q × R)
three a b c p q r =
    Decides-like (a && b && c) (λ h. (h.0.0, h.0.1, h.1)) (λ h. ((h.0, h.1), h.2)) (Decides-and (a && b) c (Decides-and a b p q) r)

each_decided : {X : Type 0} (p : X → Bool) (P : X → Type 0) → ((x : X) → Decides (p x) (P x)) → (xs : List X) → Decides (list_all p xs) (AllByRecursion P xs)
each_decided p P d [] = always
each_decided p P d (x ∷ xs) = Decides-and (p x) (list_all p xs) (d x) (each_decided p P d xs)

-- ---- numbers

bits_32 : (n : ℕ) → Decides (has_32_bits n) (n < 2 ^ 32)
bits_32 n = Decides-ltb n (2 ^ 32)

bits_64 : (n : ℕ) → Decides (has_64_bits n) (n < 2 ^ 64)
bits_64 n = Decides-ltb n (2 ^ 64)

fits_positive : (n : ℕ) → n < 2 ^ 127 → FitsSigned w128 (pos n)
fits_positive n small = omega (arith, ints)

fits_negative : (n : ℕ) → n < 2 ^ 127 → FitsSigned w128 (negsuc n)
fits_negative n small = omega (arith, ints)

small_positive : (n : ℕ) → FitsSigned w128 (pos n) → n < 2 ^ 127
small_positive n fits = omega (arith, ints)

small_negative : (n : ℕ) → FitsSigned w128 (negsuc n) → n < 2 ^ 127
small_negative n fits = omega (arith, ints)

pub bits_128 : (z : ℤ) → Decides (has_128_bits z) (FitsSigned w128 z)
bits_128 (pos n) = (λ t. fits_positive n (ltb-true n (2 ^ 127) t), λ f. lt-ltb n (2 ^ 127) (small_positive n f))
bits_128 (negsuc n) = (λ t. fits_negative n (ltb-true n (2 ^ 127) t), λ f. lt-ltb n (2 ^ 127) (small_negative n f))

-- ---- names and texts

no_greater : (a b : ℕ) → Decides (nat_le a b) (a ≤ b)
no_greater a b = (leb-true a b, le-leb a b)

character_decided : (c : ℕ) → Decides (is_text_character c) (IsTextCharacter c)
character_decided c =
    Decides-or (nat_le 32 c && nat_le c 126) (nat_eq c 10) (Decides-and (nat_le 32 c) (nat_le c 126) (no_greater 32 c) (no_greater c 126)) (Decides-eqb c 10)

pub text_decided : (cs : List ℕ) → Decides (is_text cs) (IsText cs)
text_decided cs = Decides-by_and is_text_character IsTextCharacter is_text character_decided refl (λ _ _. refl) cs

pub name_decided : (x : List ℕ) → Decides (is_name x) (IsName x)
name_decided x = Decides-and (begins is_name_start x) (list_all is_name_byte x) (is_its_truth (begins is_name_start x)) (is_its_truth (list_all is_name_byte x))

first_is : (c : ℕ) (cs x : List ℕ) → c ∷ cs ≡ hash ∷ x → c ≡ hash
first_is c cs x e = cc

rest_is : (c : ℕ) (cs x : List ℕ) → c ∷ cs ≡ hash ∷ x → x ≡ cs
rest_is c cs x e = cc

none_is : (x : List ℕ) → [] ≡ hash ∷ x → ⊥
none_is x e = absurd (cc)

logical_decided : (x : List ℕ) → Decides (is_logical_name x) (IsMarkedName hash x)
logical_decided [] = (λ t. absurd (true≢false (sym t)), λ h. absurd (none_is h.0 h.2))
logical_decided (c ∷ cs) =
    Decides-like (nat_eq c hash && is_name cs)
    (λ p. (cs, p.1, ap (λ b. b ∷ cs) p.0))
    (λ h. (first_is c cs h.0 h.2, subst IsName (rest_is c cs h.0 h.2) h.1))
    (Decides-and (nat_eq c hash) (is_name cs) (Decides-eqb c hash) (name_decided cs))

only_ret : (word : Word) → is_ret word ≡ true → word ≡ words.Ret
only_ret words.Ret e = refl
only_ret _ e = absurd (cc e)

abbrev IsFree : List ℕ → Type 0
IsFree x = (word : Word) → word_bytes word ≡ x → word ≡ words.Ret

-- the word that spells x
one_word : (x : List ℕ) (spelled word : Word) → word_of x ≡ Some spelled → word_bytes word ≡ x → word ≡ spelled
one_word x spelled word e is = sym (same_Some spelled word (sym e ∙ (ap word_of (sym is) ∙ word_of-spelling word)))

free_decided : (x : List ℕ) (o : Option Word) → word_of x ≡ o → Decides (is_free o) (IsFree x)
free_decided x None e = (λ t word is. absurd (word_of_none x e word is), λ free. refl)
free_decided x (Some spelled) e =
    (λ t word is. one_word x spelled word e is ∙ only_ret spelled t, λ free. ap is_ret (free spelled (word_of_some x spelled e)))

variable_decided : (x : List ℕ) → Decides (is_variable x) (IsVariable x)
variable_decided x = Decides-and (is_name x) (is_free (word_of x)) (name_decided x) (free_decided x (word_of x) refl)

variable_name_decided : (x : List ℕ) → Decides (is_variable_name x) (IsVariableName x)
variable_name_decided x = Decides-or (is_name x) (is_logical_name x) (name_decided x) (logical_decided x)

-- ---- values

mutual
  value_decided : (v : PureValue) → Decides (is_writable_value v) (IsWritableValue v)
  value_decided (integer n) = bits_128 n
  value_decided (boolean b) = always
  value_decided (text cs) = text_decided cs
  value_decided (symbol n) = bits_64 n
  value_decided (kind k) = always
  value_decided (procedure x) = name_decided x
  value_decided (list vs) = values_decided vs

  values_decided : (vs : PureValues) → Decides (are_writable_values vs) (AreWritableValues vs)
  values_decided no_values = always
  values_decided (value_and v vs) = Decides-and (is_writable_value v) (are_writable_values vs) (value_decided v) (values_decided vs)

listed_values_decided : (vs : List PureValue) → Decides (are_writable_values (values.from_list vs)) (AllByRecursion IsWritableValue vs)
listed_values_decided [] = always
listed_values_decided (v ∷ vs) = Decides-and (is_writable_value v) (are_writable_values (values.from_list vs)) (value_decided v) (listed_values_decided vs)

-- ---- expressions

mutual
  expr_decided : (e : PureExpr) → Decides (is_writable_expr e) (IsWritableExpr e)
  expr_decided (literal v) = Decides-and (is_writable_value v) (is_spellable v) (value_decided v) (is_its_truth (is_spellable v))
  expr_decided (name x) = variable_decided x
  expr_decided (logical x) = logical_decided x
  expr_decided (list_of es) = exprs_decided es
  expr_decided (unary_of op e) = expr_decided e
  expr_decided (binary_of op d e) = Decides-and (is_writable_expr d) (is_writable_expr e) (expr_decided d) (expr_decided e)

  exprs_decided : (es : PureExprs) → Decides (are_writable_exprs es) (AreWritableExprs es)
  exprs_decided no_exprs = always
  exprs_decided (expr_and e es) = Decides-and (is_writable_expr e) (are_writable_exprs es) (expr_decided e) (exprs_decided es)

listed_exprs_decided : (es : List PureExpr) → Decides (are_writable_exprs (from_list es)) (AllByRecursion IsWritableExpr es)
listed_exprs_decided [] = always
listed_exprs_decided (e ∷ es) = Decides-and (is_writable_expr e) (are_writable_exprs (from_list es)) (expr_decided e) (listed_exprs_decided es)

-- ---- specifications

param_decided : (q : Param) → Decides (is_writable_param q) (IsWritableParam q)
param_decided q = name_decided q.name

logical_param_decided : (q : Param) → Decides (is_writable_logical q) (IsWritableLogical q)
logical_param_decided q = logical_decided q.name

predicate_name_decided : (x : List ℕ) → Decides (is_predicate_name x) (IsName x × (x ≢ codes "not"))
predicate_name_decided x =
    Decides-and (is_name x) (not (bytes_eq x (codes "not"))) (name_decided x) (Decides-not (bytes_eq x (codes "not")) (bytes_eq-Decides x (codes "not")))

use_decided : (u : PurePredUse) → Decides (is_writable_use u) (IsWritableUse u)
use_decided u =
    Decides-like (is_writable_use u)
    (λ h. record { named = h.0.0; other = h.0.1; ins = h.1; outs = h.2 })
    (λ h. ((h.named, h.other), h.ins, h.outs))
    (three (is_predicate_name u.pred) (are_writable_exprs (from_list u.ins)) (are_writable_exprs (from_list u.outs))
    (predicate_name_decided u.pred) (listed_exprs_decided u.ins) (listed_exprs_decided u.outs))

item_decided : (item : PureItem) → Decides (is_writable_item item) (IsWritableItem item)
item_decided (pure e) = Decides-and (is_writable_expr e) (may_be_item e) (expr_decided e) (is_its_truth (may_be_item e))
item_decided (uses u) = use_decided u

assertion_decided : (items : List PureItem) → Decides (is_writable_assertion items) (IsWritableAssertion items)
assertion_decided items = each_decided is_writable_item IsWritableItem item_decided items

assertions_decided : (all : List (List PureItem)) → Decides (list_all is_writable_assertion all) (AllByRecursion IsWritableAssertion all)
assertions_decided all = each_decided is_writable_assertion IsWritableAssertion assertion_decided all

spec_decided : (s : PureSpec) → Decides (is_writable_spec s) (IsWritableSpec s)
spec_decided s =
    Decides-like (is_writable_spec s)
    (λ h. record { named = h.0.0; params = h.0.1; logicals = h.0.2; pre = h.1.0; posts = h.1.1; errors = h.1.2 })
    (λ h. ((h.named, h.params, h.logicals), (h.pre, h.posts, h.errors)))
    (Decides-and (has_writable_names s) (has_writable_assertions s)
    (three (is_name s.name) (list_all is_writable_param s.params) (list_all is_writable_logical s.logicals)
    (name_decided s.name) (each_decided is_writable_param IsWritableParam param_decided s.params)
    (each_decided is_writable_logical IsWritableLogical logical_param_decided s.logicals))
    (three (is_writable_assertion s.pre) (list_all is_writable_assertion s.posts) (list_all is_writable_assertion s.errors)
    (assertion_decided s.pre) (assertions_decided s.posts) (assertions_decided s.errors)))

-- ---- proofs

factor_decided : (f : Factor) → Decides (is_writable_factor f) (IsWritableFactor f)
factor_decided f = Decides-and (has_64_bits f.atom) (has_128_bits f.factor) (bits_64 f.atom) (bits_128 f.factor)

end_decided : (end : ChainEnd) → Decides (is_writable_end end) (IsWritableEnd end)
end_decided ChainEnd.Literals = always
end_decided ChainEnd.Kinds = always
end_decided ChainEnd.Fresh = always
end_decided (ChainEnd.Not i) = bits_64 i
end_decided (ChainEnd.Kind i) = bits_64 i
end_decided (ChainEnd.BothKinds i j) = Decides-and (has_64_bits i) (has_64_bits j) (bits_64 i) (bits_64 j)

mutual
  proof_decided : (p : PureNamedProof) → Decides (is_writable_proof p) (IsWritableProof p)
  proof_decided (sum_of fs) = each_decided is_writable_factor IsWritableFactor factor_decided fs
  proof_decided (false_at i) = bits_64 i
  proof_decided (chain is end) = Decides-and (list_all has_64_bits is) (is_writable_end end) (each_decided has_64_bits IsPlaceOfAtom bits_64 is) (end_decided end)
  proof_decided (cases_of e ps) = Decides-and (is_writable_expr e) (are_writable_proofs ps) (expr_decided e) (proofs_decided ps)
  proof_decided (values_at i ps) = Decides-and (has_64_bits i) (are_writable_proofs ps) (bits_64 i) (proofs_decided ps)
  proof_decided (parts_apart i) = bits_64 i
  proof_decided (parts_at i p) = Decides-and (has_64_bits i) (is_writable_proof p) (bits_64 i) (proof_decided p)
  proof_decided (differ_at i ps) = Decides-and (has_64_bits i) (are_writable_proofs ps) (bits_64 i) (proofs_decided ps)
  proof_decided (split_on e p q) = three (is_writable_expr e) (is_writable_proof p) (is_writable_proof q) (expr_decided e) (proof_decided p) (proof_decided q)
  proof_decided (meet_at i j k) = three (has_64_bits i) (has_64_bits j) (has_64_bits k) (bits_64 i) (bits_64 j) (bits_64 k)

  proofs_decided : (ps : PureNamedProofs) → Decides (are_writable_proofs ps) (AreWritableProofs ps)
  proofs_decided no_proofs = always
  proofs_decided (proof_and p ps) = Decides-and (is_writable_proof p) (are_writable_proofs ps) (proof_decided p) (proofs_decided ps)

-- ---- parts of answers

place_decided : (p : Place) → Decides (is_writable_place p) (IsWritablePlace p)
place_decided p = Decides-and (is_name p.proc) (has_32_bits p.at) (name_decided p.proc) (bits_32 p.at)

binding_decided : (b : PureBinding) → Decides (is_writable_binding b) (IsWritableBinding b)
binding_decided b = Decides-and (is_variable_name b.name) (is_writable_value b.value) (variable_name_decided b.name) (value_decided b.value)

bindings_decided : (bs : List PureBinding) → Decides (list_all is_writable_binding bs) (AllByRecursion IsWritableBinding bs)
bindings_decided bs = each_decided is_writable_binding IsWritableBinding binding_decided bs

condition_decided : (k : PureCondition) → Decides (is_writable_condition k) (IsWritableCondition k)
condition_decided (holds e) = expr_decided e
condition_decided (has_value e) = expr_decided e

conditions_decided : (ks : List PureCondition) → Decides (list_all is_writable_condition ks) (AllByRecursion IsWritableCondition ks)
conditions_decided ks = each_decided is_writable_condition IsWritableCondition condition_decided ks

path_decided : (place : Place) (path : List ℕ) → Decides (is_writable_path place path) (IsWritablePlace place × AllByRecursion IsChoice path)
path_decided place path =
    Decides-and (is_writable_place place) (list_all has_64_bits path) (place_decided place) (each_decided has_64_bits IsChoice bits_64 path)

question_decided : (o : PureQuestion) → Decides (is_writable_question o) (IsWritableQuestion o)
question_decided o =
    Decides-like (is_writable_question o)
    (λ h. record { place = h.0.0; path = h.0.1; given = h.1.0; query = h.1.1; outside = h.1.2 })
    (λ h. ((h.place, h.path), (h.given, h.query, h.outside)))
    (Decides-and (is_writable_path o.place o.path) (is_writable_query o.given o.query o.outside)
    (path_decided o.place o.path)
    (three (list_all is_writable_condition o.given) (list_all is_writable_condition o.query) (has_64_bits o.outside)
    (conditions_decided o.given) (conditions_decided o.query) (bits_64 o.outside)))

witness_decided : (w : PureWitness) → Decides (is_writable_witness w) (IsWritableWitness w)
witness_decided w =
    Decides-like (is_writable_witness w)
    (λ h. record { place = h.0.0; path = h.0.1; with = h.1 })
    (λ h. ((h.place, h.path), h.with))
    (Decides-and (is_writable_path w.place w.path) (list_all is_writable_binding w.with) (path_decided w.place w.path) (bindings_decided w.with))

cause_decided : (k : PureCause) → Decides (is_writable_cause k) (IsWritableCause k)
cause_decided (fails v w) = Decides-and (is_writable_value v) (is_writable_witness w) (value_decided v) (witness_decided w)
cause_decided (lacks lack w) = witness_decided w
cause_decided (undecided_cause o) = question_decided o
cause_decided (depends x) = name_decided x

-- ---- reports

head_decided : (h : Head) → Decides (is_writable_head h) (IsWritableHead h)
head_decided (Head.Entry mode language entry bound) = Decides-and (is_name entry) (has_32_bits bound) (name_decided entry) (bits_32 bound)
head_decided (Head.Check language bound) = bits_32 bound
head_decided Head.Solve = always
head_decided (Head.Sweep size) = bits_32 size

marked_decided : (opened is_cut : Bool) → Decides (is_marked opened is_cut) (opened ≡ is_cut)
marked_decided true true = (λ _. refl, λ _. refl)
marked_decided true false = (λ t. sym t, λ t. sym t)
marked_decided false true = (λ t. t, λ t. t)
marked_decided false false = (λ _. refl, λ _. refl)

answer_decided : (a : PureAnswer) → Decides (is_writable_answer a) (IsWritableAnswer a)
answer_decided (returned v) = value_decided v
answer_decided (failed v place) = Decides-and (is_writable_value v) (is_writable_place place) (value_decided v) (place_decided place)
answer_decided vanished = always
answer_decided cut = always
answer_decided (no_input draw) = bits_32 draw
answer_decided (bad_input draw) = bits_32 draw
answer_decided (number place) = place_decided place
answer_decided clean = always
answer_decided (bug place v inputs) =
    three (is_writable_place place) (is_writable_value v) (are_writable_values (values.from_list inputs))
    (place_decided place) (value_decided v) (listed_values_decided inputs)
answer_decided (undecided o) = question_decided o
answer_decided (verified x) = name_decided x
answer_decided (vacuous x proof) = Decides-and (is_name x) (is_writable_proof proof) (name_decided x) (proof_decided proof)
answer_decided (unproved x cause) = Decides-and (is_name x) (is_writable_cause cause) (name_decided x) (cause_decided cause)
answer_decided (found spec is_cut) =
    Decides-and (is_writable_spec spec) (is_marked (is_open spec) is_cut) (spec_decided spec) (marked_decided (is_open spec) is_cut)
answer_decided (sat bindings) = bindings_decided bindings
answer_decided (unsat proof) = proof_decided proof
answer_decided (unknown place) = bits_64 place
answer_decided (bytes size) = bits_64 size

pub report_decided : (r : PureReport) → Decides (is_writable r) (IsWritable r)
report_decided r =
    Decides-like (is_writable r)
    (λ h. record { head = h.0; answers = h.1 })
    (λ h. (h.head, h.answers))
    (Decides-and (is_writable_head r.head) (list_all is_writable_answer r.answers)
    (head_decided r.head) (each_decided is_writable_answer IsWritableAnswer answer_decided r.answers))
