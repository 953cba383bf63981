-- Lines of answers that were printed are read again.
use Rattle.std.proofs.Common.{◌≡◌, ℕ, ◌<◌, ◌^◌, Bool, true, false, eqb, List, [], ◌∷◌, ◌++◌, Some, refl, sym, ap, subst, ◌∙◌, arith, append_assoc, inl, inr}
use Rattle.std.specs.Prelude.{codes, if◌then◌else◌}
use Rattle.std.specs.List.{AllByRecursion}
use Rattle.std.specs.Char.{is_ascii_digit}
use Rattle.std.proofs.lemmas.Bool.{true≢false, cases_Bool}
use Rattle.std.proofs.Math.Seq.{drop-append_seam}
use Rattle.gil_values.specs.Pieces.{printed_list, printed_place}
use Rattle.gil_values.specs.Printed.{numeral, printed_value, kind_name, signed_numeral}
use Rattle.gil_values.specs.declared.kinds.Kind.{Kind}
use Rattle.gil_values.specs.declared.kinds.Kind.TheVariants as kinds
use Rattle.gil_values.specs.Pure.{PureValue, integer, boolean, text, symbol, kind, procedure, list}
use Rattle.gil_values.specs.declared.places.Place.{Place}
use Rattle.value_text.specs.Laws.{EndsWord}
use Rattle.value_text.specs.Reading.{Reading, ◌>>=◌, behind, past_name}
use Rattle.value_text.specs.Writable.{IsWritableValue}
use Rattle.value_text.proofs.NumberLaws.{first_not, integer_first_not, natural_again, numeral_begins}
use Rattle.value_text.proofs.ValueLaws.{values_again, bracketed_again}
use Rattle.value_text.proofs.TextLaws.{name_again}
use Rattle.value_text.proofs.WordLaws.{behind_again}
use Rattle.gil_lexer.specs.Bytes.{begins, is_name_start, is_name_byte}
use Rattle.gil_lexer.specs.Spelling.{IsName}
use Rattle.gil_lexer.proofs.ByteLemmas.{name_start_no_digit}
use Rattle.gil_lexer.proofs.RunLemmas.{run_is}
use Rattle.gil_syntax.specs.Pure.{PureSpec}
use Rattle.syntax_print.specs.Assertions.{printed_block, printed_params, printed_posts, printed_variables}
use Rattle.specification_text.specs.Reading as specifications
use Rattle.specification_text.specs.Writable.{IsWritableSpec}
use Rattle.specification_text.proofs.SpecificationLaws.{EndsSpec, named_first, specification_again, specification_rest}
use Rattle.proof_text.specs.Writable.{IsWritableProof}
use Rattle.proof_text.proofs.ProofLaws.{proofs_again}
use Rattle.gil_report.specs.Proofs.{printed_proof}
use Rattle.report_parts.specs.Writable.{IsWritablePlace, IsWritableBinding, IsWritableQuestion, IsWritableCause}
use Rattle.report_parts.proofs.PartLaws.{bindings_again, cause_again, eleven, name_apart, other_first, place_again, question_again, small_again}
use Rattle.gil_report.specs.Pure as proofs
use Rattle.gil_report.specs.Lines.{answer_line, cut_mark, printed_cause, printed_question}
use Rattle.gil_report.specs.Printed.{printed_specification, bracketed, printed_binding, printed_condition, printed_sort}
use Rattle.gil_report.specs.Pure.{PureBinding, PureCause, PureNamedProof, PureQuestion, PureAnswer, returned, failed, vanished, cut, no_input, bad_input, number, clean, bug, undecided}
use Rattle.gil_report.specs.Pure.{verified, vacuous, unproved, found, sat, unsat, unknown, bytes as length_of}
use Rattle.report_text.specs.Writable.{IsWritableAnswer}
use Rattle.report_text.specs.Reading.{returned_at, failed_at, no_input_at, bad_input_at, number_at, bug_at, sat_at, unsat_at, is_open, marked_at, found_at, undecided_at, outside_at, unknown_at, length_at, body_at, vacuous_at, unproved_at, status_at, specification_at, tells, is_of_specification, answer_at}

-- ---- groups

three : (a b c rest : List ℕ) → ((a ++ b) ++ c) ++ rest ≡ a ++ (b ++ (c ++ rest))
three a b c rest = simp append_assoc

five : (a b c d e rest : List ℕ) → ((((a ++ b) ++ c) ++ d) ++ e) ++ rest ≡ a ++ (b ++ (c ++ (d ++ (e ++ rest))))
five a b c d e rest = simp append_assoc

-- ---- what stands behind the first word

returned_again : (v : PureValue) (rest : List ℕ) → IsWritableValue v → returned_at (printed_value v ++ (10 ∷ rest)) ≡ Some (returned v, 10 ∷ rest)
unfolding returned_at
returned_again v rest is = rw (values_again v (10 ∷ rest) is refl) refl

failed_again : (v : PureValue) (place : Place) (rest : List ℕ) → IsWritableValue v → IsWritablePlace place
    → failed_at (printed_value v ++ (codes " " ++ (printed_place place ++ (10 ∷ rest)))) ≡ Some (failed v place, 10 ∷ rest)
unfolding failed_at
failed_again v place rest is at =
    let a = printed_place place ++ (10 ∷ rest) in
    rw (values_again v (codes " " ++ a) is refl, behind_again (codes " ") a, place_again place (10 ∷ rest) at refl) refl

no_input_again : (n : ℕ) (rest : List ℕ) → n < 2 ^ 32 → no_input_at (numeral n ++ (10 ∷ rest)) ≡ Some (no_input n, 10 ∷ rest)
unfolding no_input_at
no_input_again n rest is = rw (small_again n (10 ∷ rest) is refl) refl

bad_input_again : (n : ℕ) (rest : List ℕ) → n < 2 ^ 32 → bad_input_at (numeral n ++ (10 ∷ rest)) ≡ Some (bad_input n, 10 ∷ rest)
unfolding bad_input_at
bad_input_again n rest is = rw (small_again n (10 ∷ rest) is refl) refl

number_again : (place : Place) (rest : List ℕ) → IsWritablePlace place → number_at (printed_place place ++ (10 ∷ rest)) ≡ Some (number place, 10 ∷ rest)
unfolding number_at
number_again place rest is = rw (place_again place (10 ∷ rest) is refl) refl

bug_again : (place : Place) (v : PureValue) (inputs : List PureValue) (rest : List ℕ) → IsWritablePlace place → IsWritableValue v → AllByRecursion IsWritableValue inputs
    → bug_at (printed_place place ++ (codes " " ++ (printed_value v ++ (codes " inputs " ++ (printed_list inputs ++ (10 ∷ rest)))))) ≡ Some (bug place v inputs, 10 ∷ rest)
unfolding bug_at
bug_again place v inputs rest at is all =
    let a = printed_list inputs ++ (10 ∷ rest) in
    let b = printed_value v ++ (codes " inputs " ++ a) in
    rw (
      place_again place (codes " " ++ b) at refl,
      behind_again (codes " ") b,
      values_again v (codes " inputs " ++ a) is refl,
      behind_again (codes " inputs ") a,
      bracketed_again inputs (10 ∷ rest) all,
    ) refl

length_again : (n : ℕ) (rest : List ℕ) → n < 2 ^ 64 → length_at (numeral n ++ (10 ∷ rest)) ≡ Some (length_of n, 10 ∷ rest)
unfolding length_at
length_again n rest is = rw (natural_again 64 n (10 ∷ rest) is (omega arith) refl) refl

sat_again : (bs : List PureBinding) (rest : List ℕ) → AllByRecursion IsWritableBinding bs → sat_at (bracketed printed_binding bs ++ (10 ∷ rest)) ≡ Some (sat bs, 10 ∷ rest)
unfolding sat_at
sat_again bs rest all = rw (bindings_again bs (10 ∷ rest) all) refl

unsat_again : (p : PureNamedProof) (rest : List ℕ) → IsWritableProof p → unsat_at (printed_proof p ++ (10 ∷ rest)) ≡ Some (unsat p, 10 ∷ rest)
unfolding unsat_at
unsat_again p rest is = rw (proofs_again p (10 ∷ rest) is refl) refl

mark_ends : (b : Bool) (rest : List ℕ) → EndsSpec (cut_mark b ++ (10 ∷ rest))
unfolding behind
mark_ends true rest = record { no_post = refl; no_error = refl }
mark_ends false rest = record { no_post = refl; no_error = refl }

-- what is read behind a specification, by whether it is open
marked_by : PureSpec → List ℕ → Bool → Reading PureAnswer
marked_by s bytes is_open = if is_open then (behind (codes " cut") bytes >>= λ rest. Some (found s true, rest)) else Some (found s false, bytes)

mark_again : (s : PureSpec) (b : Bool) (rest : List ℕ) → is_open s ≡ b → marked_at s (cut_mark b ++ (10 ∷ rest)) ≡ Some (found s b, 10 ∷ rest)
unfolding marked_by behind
mark_again s true rest is = subst (λ c. marked_by s (codes " cut" ++ (10 ∷ rest)) c ≡ Some (found s true, 10 ∷ rest)) (sym is) refl
mark_again s false rest is = subst (λ c. marked_by s (10 ∷ rest) c ≡ Some (found s false, 10 ∷ rest)) (sym is) refl

found_again : (s : PureSpec) (b : Bool) (rest : List ℕ) → IsWritableAnswer (found s b)
    → found_at (specification_rest s ++ (cut_mark b ++ (10 ∷ rest))) ≡ Some (found s b, 10 ∷ rest)
unfolding found_at
found_again s b rest is = rw (specification_again s (cut_mark b ++ (10 ∷ rest)) is.0 (mark_ends b rest)) (mark_again s b rest is.1)

undecided_again : (o : PureQuestion) (rest : List ℕ) → IsWritableQuestion o → undecided_at (printed_question o ++ (10 ∷ rest)) ≡ Some (undecided o, 10 ∷ rest)
unfolding undecided_at
undecided_again o rest is = rw (question_again o (10 ∷ rest) is refl) refl

outside_again : (n : ℕ) (rest : List ℕ) → n < 2 ^ 64 → outside_at (numeral n ++ (10 ∷ rest)) ≡ Some (unknown n, 10 ∷ rest)
unfolding outside_at
outside_again n rest is = rw (natural_again 64 n (10 ∷ rest) is (omega arith) refl) refl

-- ---- the status of a specification, and what is none

past_again : (x rest : List ℕ) → IsName x → EndsWord rest → past_name (x ++ rest) ≡ rest
past_again x rest is ends = rw (run_is is_name_byte x rest is.1 ends) (drop-append_seam x rest)

-- a blank and a byte that begins no status
tells_no : (t : List ℕ) → begins (λ b. eqb b 118) t ≡ false → begins (λ b. eqb b 117) t ≡ false → tells (32 ∷ t) ≡ false
unfolding behind
tells_no t no_v no_u =
    rw (other_first 118 (codes "erified\n") t no_v, other_first 118 (codes "acuous ") t no_v, other_first 117 (codes "nproved ") t no_u) refl

-- a name behind which neither the line ends nor a blank stands
tells_no_name : (x t : List ℕ) → IsName x → EndsWord t → begins (λ b. eqb b 10) t ≡ false → begins (λ b. eqb b 32) t ≡ false → tells (32 ∷ (x ++ t)) ≡ false
unfolding behind
tells_no_name x t is ends no_end no_blank =
    rw (
      name_apart 10 (codes "verified") x t refl is.1 refl ends no_end,
      name_apart 32 (codes "vacuous") x t refl is.1 refl ends no_blank,
      name_apart 32 (codes "unproved") x t refl is.1 refl ends no_blank,
    ) refl

kind_no_v : (k : Kind) (rest : List ℕ) → begins (λ b. eqb b 118) (kind_name k ++ rest) ≡ false
kind_no_v kinds.Int rest = refl
kind_no_v kinds.Bool rest = refl
kind_no_v kinds.Str rest = refl
kind_no_v kinds.Sym rest = refl
kind_no_v kinds.Kind rest = refl
kind_no_v kinds.Proc rest = refl
kind_no_v kinds.List rest = refl
kind_no_v kinds.Undef rest = refl
kind_no_v kinds.Null rest = refl

kind_no_u : (k : Kind) (rest : List ℕ) → begins (λ b. eqb b 117) (kind_name k ++ rest) ≡ false
kind_no_u kinds.Int rest = refl
kind_no_u kinds.Bool rest = refl
kind_no_u kinds.Str rest = refl
kind_no_u kinds.Sym rest = refl
kind_no_u kinds.Kind rest = refl
kind_no_u kinds.Proc rest = refl
kind_no_u kinds.List rest = refl
kind_no_u kinds.Undef rest = refl
kind_no_u kinds.Null rest = refl

tells_no_value : (v : PureValue) (rest : List ℕ) → tells (32 ∷ (printed_value v ++ rest)) ≡ false
tells_no_value (integer n) rest = tells_no (signed_numeral n ++ rest) (integer_first_not 118 n rest refl refl) (integer_first_not 117 n rest refl refl)
tells_no_value (boolean true) rest = tells_no (codes "true" ++ rest) refl refl
tells_no_value (boolean false) rest = tells_no (codes "false" ++ rest) refl refl
tells_no_value (text cs) rest = tells_no (printed_value (text cs) ++ rest) refl refl
tells_no_value (symbol n) rest = tells_no (printed_value (symbol n) ++ rest) refl refl
tells_no_value (kind k) rest = tells_no (kind_name k ++ rest) (kind_no_v k rest) (kind_no_u k rest)
tells_no_value (procedure x) rest = tells_no (printed_value (procedure x) ++ rest) refl refl
tells_no_value (list vs) rest = tells_no (printed_value (list vs) ++ rest) refl refl

tells_no_number : (n : ℕ) (rest : List ℕ) → tells (32 ∷ (numeral n ++ rest)) ≡ false
tells_no_number n rest = tells_no (numeral n ++ rest) (first_not 118 (numeral n) rest (numeral_begins n) refl) (first_not 117 (numeral n) rest (numeral_begins n) refl)

tells_no_place : (p : Place) (rest : List ℕ) → IsWritablePlace p → tells (32 ∷ (printed_place p ++ rest)) ≡ false
tells_no_place p rest is =
    ap (λ t. tells (32 ∷ t)) (three p.proc (codes ":") (numeral p.at) rest) ∙ tells_no_name p.proc (58 ∷ (numeral p.at ++ rest)) is.0 refl refl refl

tells_no_proof : (p : PureNamedProof) (rest : List ℕ) → tells (32 ∷ (printed_proof p ++ rest)) ≡ false
unfolding behind
tells_no_proof (proofs.sum_of fs) rest = refl
tells_no_proof (proofs.false_at i) rest = refl
tells_no_proof (proofs.chain is end) rest = refl
tells_no_proof (proofs.cases_of e ps) rest = refl
tells_no_proof (proofs.values_at i ps) rest = refl
tells_no_proof (proofs.parts_apart i) rest = refl
tells_no_proof (proofs.parts_at i p) rest = refl
tells_no_proof (proofs.differ_at i ps) rest = refl
tells_no_proof (proofs.split_on e p q) rest = refl
tells_no_proof (proofs.meet_at i j k) rest = refl

tells_no_found : (s : PureSpec) (rest : List ℕ) → IsWritableSpec s → tells (32 ∷ (specification_rest s ++ rest)) ≡ false
tells_no_found s rest is =
    let named = named_first s rest in
    ap (λ t. tells (32 ∷ t)) named.1 ∙ tells_no_name s.name (40 ∷ named.0) is.named refl refl refl

tells_no_line : (rest : List ℕ) → tells (10 ∷ rest) ≡ false
unfolding behind
tells_no_line rest = refl

tells_no_input : (rest : List ℕ) → tells (codes " input " ++ rest) ≡ false
unfolding behind
tells_no_input rest = refl

-- a question begins with its place
after_place : PureQuestion → List ℕ → List ℕ
after_place o rest =
    codes " path " ++ (bracketed numeral o.path ++ (codes " vars " ++ (bracketed printed_sort o.vars ++ (codes " given " ++ (bracketed printed_condition o.given
    ++ (codes " query " ++ (bracketed printed_condition o.query ++ (codes " outside " ++ (numeral o.outside ++ rest)))))))))

question_place : (o : PureQuestion) (rest : List ℕ) → printed_question o ++ rest ≡ printed_place o.place ++ after_place o rest
unfolding after_place
question_place o rest =
    eleven (printed_place o.place) (codes " path ") (bracketed numeral o.path) (codes " vars ") (bracketed printed_sort o.vars)
    (codes " given ") (bracketed printed_condition o.given) (codes " query ") (bracketed printed_condition o.query) (codes " outside ") (numeral o.outside) rest

tells_no_question : (o : PureQuestion) (rest : List ℕ) → IsWritableQuestion o → tells (32 ∷ (printed_question o ++ rest)) ≡ false
tells_no_question o rest is = ap (λ t. tells (32 ∷ t)) (question_place o rest) ∙ tells_no_place o.place (after_place o rest) is.place

name_begins : (x rest : List ℕ) → IsName x → begins is_name_start (x ++ rest) ≡ true
name_begins [] rest is = absurd (cc is.0)
name_begins (b ∷ x) rest is = is.0

place_begins : (p : Place) (rest : List ℕ) → IsWritablePlace p → begins is_name_start (printed_place p ++ rest) ≡ true
place_begins p rest is = ap (begins is_name_start) (three p.proc (codes ":") (numeral p.at) rest) ∙ name_begins p.proc (codes ":" ++ (numeral p.at ++ rest)) is.0

question_begins : (o : PureQuestion) (rest : List ℕ) → IsWritableQuestion o → begins is_name_start (printed_question o ++ rest) ≡ true
question_begins o rest is = ap (begins is_name_start) (question_place o rest) ∙ place_begins o.place (after_place o rest) is.place

digits_no_name : (ds rest : List ℕ) → begins is_ascii_digit ds ≡ true → begins is_name_start (ds ++ rest) ≡ false
digits_no_name [] rest e = absurd (cc e)
digits_no_name (d ∷ ds) rest e =
    elim (cases_Bool (is_name_start d)) [
      | inl named ↦ absurd (true≢false (sym e ∙ name_start_no_digit d named))
      | inr other ↦ other
    ]

-- a line whose first word has this behind it
other_line : (word t : List ℕ) → IsName word → EndsWord t → tells t ≡ false → is_of_specification (word ++ t) ≡ false
other_line word t is ends apart = ap tells (past_again word t is ends) ∙ apart

-- ---- lines

-- the line of an answer whose body is read so
line_again : (x : PureAnswer) (body rest : List ℕ) → is_of_specification (body ++ (10 ∷ rest)) ≡ false → body_at (body ++ (10 ∷ rest)) ≡ Some (x, 10 ∷ rest)
    → answer_at ((body ++ 10 ∷ []) ++ rest) ≡ Some (x, rest)
unfolding answer_at
line_again x body rest apart is = rw (append_assoc body (10 ∷ []) rest, apart, is, behind_again (10 ∷ []) rest) refl

-- the line of an answer about a specification
specification_line : (x : PureAnswer) (body rest : List ℕ) → is_of_specification (body ++ (10 ∷ rest)) ≡ true
    → specification_at (body ++ (10 ∷ rest)) ≡ Some (x, 10 ∷ rest) → answer_at ((body ++ 10 ∷ []) ++ rest) ≡ Some (x, rest)
unfolding answer_at
specification_line x body rest told is = rw (append_assoc body (10 ∷ []) rest, told, is, behind_again (10 ∷ []) rest) refl

returned_body : (t rest : List ℕ) → body_at ((codes "returned " ++ t) ++ rest) ≡ returned_at (t ++ rest)
unfolding behind
returned_body t rest = refl

failed_body : (t rest : List ℕ) → body_at ((codes "failed " ++ t) ++ rest) ≡ failed_at (t ++ rest)
unfolding behind
failed_body t rest = refl

no_input_body : (t rest : List ℕ) → body_at ((codes "no input " ++ t) ++ rest) ≡ no_input_at (t ++ rest)
unfolding behind
no_input_body t rest = refl

bad_input_body : (t rest : List ℕ) → body_at ((codes "bad input " ++ t) ++ rest) ≡ bad_input_at (t ++ rest)
unfolding behind
bad_input_body t rest = refl

number_body : (t rest : List ℕ) → body_at ((codes "number " ++ t) ++ rest) ≡ number_at (t ++ rest)
unfolding behind
number_body t rest = refl

bug_body : (t rest : List ℕ) → body_at ((codes "bug " ++ t) ++ rest) ≡ bug_at (t ++ rest)
unfolding behind
bug_body t rest = refl

length_body : (t rest : List ℕ) → body_at ((codes "bytes " ++ t) ++ rest) ≡ length_at (t ++ rest)
unfolding behind
length_body t rest = refl

vanished_body : (rest : List ℕ) → body_at (codes "vanished" ++ rest) ≡ Some (vanished, rest)
unfolding behind
vanished_body rest = refl

cut_body : (rest : List ℕ) → body_at (codes "cut" ++ rest) ≡ Some (cut, rest)
unfolding behind
cut_body rest = refl

clean_body : (rest : List ℕ) → body_at (codes "clean" ++ rest) ≡ Some (clean, rest)
unfolding behind
clean_body rest = refl

sat_body : (t rest : List ℕ) → body_at ((codes "sat " ++ t) ++ rest) ≡ sat_at (t ++ rest)
unfolding behind
sat_body t rest = refl

unsat_body : (t rest : List ℕ) → body_at ((codes "unsat " ++ t) ++ rest) ≡ unsat_at (t ++ rest)
unfolding behind
unsat_body t rest = refl

found_body : (t : List ℕ) → body_at (codes "spec " ++ t) ≡ found_at t
unfolding behind
found_body t = refl

unknown_body : (t rest : List ℕ) → body_at ((codes "unknown " ++ t) ++ rest) ≡ unknown_at (t ++ rest)
unfolding behind
unknown_body t rest = refl

numeral_no_name : (n : ℕ) (rest : List ℕ) → begins is_name_start (numeral n ++ rest) ≡ false
numeral_no_name n rest = digits_no_name (numeral n) rest (numeral_begins n)

undecided_read : (o : PureQuestion) (rest : List ℕ) → IsWritableQuestion o → unknown_at (printed_question o ++ (10 ∷ rest)) ≡ Some (undecided o, 10 ∷ rest)
undecided_read o rest is = rw (question_begins o (10 ∷ rest) is) (undecided_again o rest is)

outside_read : (n : ℕ) (rest : List ℕ) → n < 2 ^ 64 → unknown_at (numeral n ++ (10 ∷ rest)) ≡ Some (unknown n, 10 ∷ rest)
outside_read n rest is = rw (numeral_no_name n (10 ∷ rest)) (outside_again n rest is)

-- ---- specifications

verified_tells : (x rest : List ℕ) → IsName x → is_of_specification ((x ++ codes " verified") ++ (10 ∷ rest)) ≡ true
unfolding behind
verified_tells x rest is = ap is_of_specification (append_assoc x (codes " verified") (10 ∷ rest)) ∙ ap tells (past_again x (codes " verified" ++ (10 ∷ rest)) is refl)

verified_read : (x rest : List ℕ) → IsName x → specification_at ((x ++ codes " verified") ++ (10 ∷ rest)) ≡ Some (verified x, 10 ∷ rest)
unfolding specification_at behind
verified_read x rest is =
    ap specification_at (append_assoc x (codes " verified") (10 ∷ rest)) ∙ rw (name_again x (codes " verified" ++ (10 ∷ rest)) is refl) refl

vacuous_tells : (x t : List ℕ) → IsName x → is_of_specification (x ++ (codes " vacuous " ++ t)) ≡ true
unfolding behind
vacuous_tells x t is = ap tells (past_again x (codes " vacuous " ++ t) is refl)

vacuous_status : (x t : List ℕ) → status_at x (codes " vacuous " ++ t) ≡ vacuous_at x t
unfolding behind
vacuous_status x t = refl

vacuous_named : (x t : List ℕ) → IsName x → specification_at (x ++ (codes " vacuous " ++ t)) ≡ status_at x (codes " vacuous " ++ t)
unfolding specification_at
vacuous_named x t is = rw (name_again x (codes " vacuous " ++ t) is refl) refl

vacuous_again : (x : List ℕ) (p : PureNamedProof) (rest : List ℕ) → IsWritableProof p → vacuous_at x (printed_proof p ++ (10 ∷ rest)) ≡ Some (vacuous x p, 10 ∷ rest)
unfolding vacuous_at
vacuous_again x p rest is = rw (proofs_again p (10 ∷ rest) is refl) refl

unproved_tells : (x t : List ℕ) → IsName x → is_of_specification (x ++ (codes " unproved " ++ t)) ≡ true
unfolding behind
unproved_tells x t is = ap tells (past_again x (codes " unproved " ++ t) is refl)

unproved_status : (x t : List ℕ) → status_at x (codes " unproved " ++ t) ≡ unproved_at x t
unfolding behind
unproved_status x t = refl

unproved_named : (x t : List ℕ) → IsName x → specification_at (x ++ (codes " unproved " ++ t)) ≡ status_at x (codes " unproved " ++ t)
unfolding specification_at
unproved_named x t is = rw (name_again x (codes " unproved " ++ t) is refl) refl

unproved_again : (x : List ℕ) (k : PureCause) (rest : List ℕ) → IsWritableCause k → unproved_at x (printed_cause k ++ (10 ∷ rest)) ≡ Some (unproved x k, 10 ∷ rest)
unfolding unproved_at
unproved_again x k rest is = rw (cause_again k (10 ∷ rest) is refl) refl

pub answer_again : (x : PureAnswer) (rest : List ℕ) → IsWritableAnswer x → answer_at (answer_line x ++ rest) ≡ Some (x, rest)
answer_again (returned v) rest is =
    line_again (returned v) (codes "returned " ++ printed_value v) rest
    (other_line (codes "returned") (32 ∷ (printed_value v ++ (10 ∷ rest))) (refl, refl) refl (tells_no_value v (10 ∷ rest)))
    (returned_body (printed_value v) (10 ∷ rest) ∙ returned_again v rest is)
answer_again (failed v place) rest is =
    line_again (failed v place) (codes "failed " ++ printed_value v ++ codes " " ++ printed_place place) rest
    (ap (λ t. is_of_specification (codes "failed " ++ t)) (three (printed_value v) (codes " ") (printed_place place) (10 ∷ rest))
    ∙ other_line (codes "failed") (32 ∷ (printed_value v ++ (codes " " ++ (printed_place place ++ (10 ∷ rest))))) (refl, refl) refl
    (tells_no_value v (codes " " ++ (printed_place place ++ (10 ∷ rest)))))
    (failed_body (printed_value v ++ codes " " ++ printed_place place) (10 ∷ rest)
    ∙ ap failed_at (three (printed_value v) (codes " ") (printed_place place) (10 ∷ rest)) ∙ failed_again v place rest is.0 is.1)
answer_again vanished rest is = line_again vanished (codes "vanished") rest (other_line (codes "vanished") (10 ∷ rest) (refl, refl) refl (tells_no_line rest)) (vanished_body (10 ∷ rest))
answer_again cut rest is = line_again cut (codes "cut") rest (other_line (codes "cut") (10 ∷ rest) (refl, refl) refl (tells_no_line rest)) (cut_body (10 ∷ rest))
answer_again (no_input n) rest is =
    line_again (no_input n) (codes "no input " ++ numeral n) rest
    (other_line (codes "no") (codes " input " ++ (numeral n ++ (10 ∷ rest))) (refl, refl) refl (tells_no_input (numeral n ++ (10 ∷ rest))))
    (no_input_body (numeral n) (10 ∷ rest) ∙ no_input_again n rest is)
answer_again (bad_input n) rest is =
    line_again (bad_input n) (codes "bad input " ++ numeral n) rest
    (other_line (codes "bad") (codes " input " ++ (numeral n ++ (10 ∷ rest))) (refl, refl) refl (tells_no_input (numeral n ++ (10 ∷ rest))))
    (bad_input_body (numeral n) (10 ∷ rest) ∙ bad_input_again n rest is)
answer_again (number place) rest is =
    line_again (number place) (codes "number " ++ printed_place place) rest
    (other_line (codes "number") (32 ∷ (printed_place place ++ (10 ∷ rest))) (refl, refl) refl (tells_no_place place (10 ∷ rest) is))
    (number_body (printed_place place) (10 ∷ rest) ∙ number_again place rest is)
answer_again clean rest is = line_again clean (codes "clean") rest (other_line (codes "clean") (10 ∷ rest) (refl, refl) refl (tells_no_line rest)) (clean_body (10 ∷ rest))
answer_again (bug place v inputs) rest is =
    let a = codes " " ++ (printed_value v ++ (codes " inputs " ++ (printed_list inputs ++ (10 ∷ rest)))) in
    line_again (bug place v inputs) (codes "bug " ++ printed_place place ++ codes " " ++ printed_value v ++ codes " inputs " ++ printed_list inputs) rest
    (ap (λ t. is_of_specification (codes "bug " ++ t)) (five (printed_place place) (codes " ") (printed_value v) (codes " inputs ") (printed_list inputs) (10 ∷ rest))
    ∙ other_line (codes "bug") (32 ∷ (printed_place place ++ a)) (refl, refl) refl (tells_no_place place a is.0))
    (bug_body (printed_place place ++ codes " " ++ printed_value v ++ codes " inputs " ++ printed_list inputs) (10 ∷ rest)
    ∙ ap bug_at (five (printed_place place) (codes " ") (printed_value v) (codes " inputs ") (printed_list inputs) (10 ∷ rest))
    ∙ bug_again place v inputs rest is.0 is.1 is.2)
answer_again (undecided o) rest is =
    line_again (undecided o) (codes "unknown " ++ printed_question o) rest
    (other_line (codes "unknown") (32 ∷ (printed_question o ++ (10 ∷ rest))) (refl, refl) refl (tells_no_question o (10 ∷ rest) is))
    (unknown_body (printed_question o) (10 ∷ rest) ∙ undecided_read o rest is)
answer_again (verified x) rest is = specification_line (verified x) (x ++ codes " verified") rest (verified_tells x rest is) (verified_read x rest is)
answer_again (vacuous x p) rest is =
    let grouped = three x (codes " vacuous ") (printed_proof p) (10 ∷ rest) in
    specification_line (vacuous x p) (x ++ codes " vacuous " ++ printed_proof p) rest
    (ap is_of_specification grouped ∙ vacuous_tells x (printed_proof p ++ (10 ∷ rest)) is.0)
    (ap specification_at grouped ∙ vacuous_named x (printed_proof p ++ (10 ∷ rest)) is.0 ∙ vacuous_status x (printed_proof p ++ (10 ∷ rest))
    ∙ vacuous_again x p rest is.1)
answer_again (unproved x k) rest is =
    let grouped = three x (codes " unproved ") (printed_cause k) (10 ∷ rest) in
    specification_line (unproved x k) (x ++ codes " unproved " ++ printed_cause k) rest
    (ap is_of_specification grouped ∙ unproved_tells x (printed_cause k ++ (10 ∷ rest)) is.0)
    (ap specification_at grouped ∙ unproved_named x (printed_cause k ++ (10 ∷ rest)) is.0 ∙ unproved_status x (printed_cause k ++ (10 ∷ rest))
    ∙ unproved_again x k rest is.1)
answer_again (found s b) rest is =
    let grouped = append_assoc (printed_specification s) (cut_mark b) (10 ∷ rest) in
    line_again (found s b) (printed_specification s ++ cut_mark b) rest
    (ap is_of_specification grouped ∙ other_line (codes "spec") (32 ∷ (specification_rest s ++ (cut_mark b ++ (10 ∷ rest)))) (refl, refl) refl (tells_no_found s (cut_mark b ++ (10 ∷ rest)) is.0))
    (ap body_at grouped ∙ found_body (specification_rest s ++ (cut_mark b ++ (10 ∷ rest))) ∙ found_again s b rest is)
answer_again (sat bs) rest is =
    line_again (sat bs) (codes "sat " ++ bracketed printed_binding bs) rest
    (other_line (codes "sat") (32 ∷ (bracketed printed_binding bs ++ (10 ∷ rest))) (refl, refl) refl (tells_no (bracketed printed_binding bs ++ (10 ∷ rest)) refl refl))
    (sat_body (bracketed printed_binding bs) (10 ∷ rest) ∙ sat_again bs rest is)
answer_again (unsat p) rest is =
    line_again (unsat p) (codes "unsat " ++ printed_proof p) rest
    (other_line (codes "unsat") (32 ∷ (printed_proof p ++ (10 ∷ rest))) (refl, refl) refl (tells_no_proof p (10 ∷ rest)))
    (unsat_body (printed_proof p) (10 ∷ rest) ∙ unsat_again p rest is)
answer_again (unknown n) rest is =
    line_again (unknown n) (codes "unknown " ++ numeral n) rest
    (other_line (codes "unknown") (32 ∷ (numeral n ++ (10 ∷ rest))) (refl, refl) refl (tells_no_number n (10 ∷ rest)))
    (unknown_body (numeral n) (10 ∷ rest) ∙ outside_read n rest is)
answer_again (length_of n) rest is =
    line_again (length_of n) (codes "bytes " ++ numeral n) rest
    (other_line (codes "bytes") (32 ∷ (numeral n ++ (10 ∷ rest))) (refl, refl) refl (tells_no_number n (10 ∷ rest)))
    (length_body (numeral n) (10 ∷ rest) ∙ length_again n rest is)
