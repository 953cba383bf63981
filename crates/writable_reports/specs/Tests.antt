-- Whether the parts of a report are such as texts have, as functions of their pure data: what the functions of this crate answer. They decide
-- what the definitions of report_text, and of the crates that it stands on, say of the same parts.
use Rattle.std.specs.Prelude.{ℕ, ℤ, pos, negsuc, ◌^◌, Bool, true, false, not, ◌&&◌, ◌||◌, nat_eq, nat_le, nat_lt, List, [], ◌∷◌, Option, Some, None, codes}
use Rattle.std.specs.List.{list_all}
use Rattle.std.specs.Str.{bytes_eq}
use Rattle.gil_values.specs.declared.places.Place.{Place}
use Rattle.gil_values.specs.Pure.{PureValue, integer, boolean, text, symbol, kind, procedure, list, PureValues, no_values, value_and}
use Rattle.gil_values.specs.Pure as values
use Rattle.gil_lexer.specs.Bytes.{begins, is_name_start, is_name_byte, hash}
use Rattle.gil_lexer.specs.Reading.{word_of}
use Rattle.gil_lexer.specs.declared.words.Word.{Word}
use Rattle.gil_lexer.specs.declared.words.Word.TheVariants as words
use Rattle.gil_syntax.specs.declared.assertions.Param.{Param}
use Rattle.gil_syntax.specs.Pure.{PureExpr, literal, name, logical, list_of, unary_of, binary_of, PureExprs, no_exprs, expr_and, from_list, PurePredUse, PureItem, pure, uses, PureSpec}
use Rattle.gil_syntax.specs.WellMade.{is_spellable}
use Rattle.solver_proof.specs.declared.proofs.ChainEnd.{ChainEnd}
use Rattle.solver_proof.specs.declared.proofs.Factor.{Factor}
use Rattle.specification_text.specs.Reading.{may_be_item}
use Rattle.report_text.specs.Reading.{is_open}
use Rattle.gil_report.specs.declared.heads.Head.{Head}
use Rattle.gil_report.specs.Pure.{PureNamedProof, sum_of, false_at, chain, cases_of, values_at, parts_apart, parts_at, differ_at, split_on, meet_at}
use Rattle.gil_report.specs.Pure.{PureNamedProofs, no_proofs, proof_and}
use Rattle.gil_report.specs.Pure.{PureBinding, PureCondition, holds, has_value, PureQuestion, PureWitness, PureCause, fails, lacks, undecided_cause, depends}
use Rattle.gil_report.specs.Pure.{PureAnswer, returned, failed, vanished, cut, no_input, bad_input, number, clean, bug, undecided}
use Rattle.gil_report.specs.Pure.{verified, vacuous, unproved, found, sat, unsat, unknown, bytes, PureReport}

-- ---- numbers

abbrev pub has_32_bits : ℕ → Bool
has_32_bits n = nat_lt n (2 ^ 32)

abbrev pub has_64_bits : ℕ → Bool
has_64_bits n = nat_lt n (2 ^ 64)

-- with a sign
abbrev pub has_128_bits : ℤ → Bool
has_128_bits (pos n) = nat_lt n (2 ^ 127)
has_128_bits (negsuc n) = nat_lt n (2 ^ 127)

-- ---- names and texts

abbrev pub is_text_character : ℕ → Bool
is_text_character c = nat_le 32 c && nat_le c 126 || nat_eq c 10

abbrev pub is_text : List ℕ → Bool
is_text cs = list_all is_text_character cs

-- reserved or not
abbrev pub is_name : List ℕ → Bool
is_name x = begins is_name_start x && list_all is_name_byte x

-- `#` and a name
abbrev pub is_logical_name : List ℕ → Bool
is_logical_name [] = false
is_logical_name (c ∷ cs) = nat_eq c hash && is_name cs

abbrev pub is_ret : Word → Bool
is_ret words.Ret = true
is_ret _ = false

-- no reserved word, or `ret`
abbrev pub is_free : Option Word → Bool
is_free None = true
is_free (Some word) = is_ret word

-- the name of a variable of an expression
abbrev pub is_variable : List ℕ → Bool
is_variable x = is_name x && is_free (word_of x)

-- the name of a variable of a binding
abbrev pub is_variable_name : List ℕ → Bool
is_variable_name x = is_name x || is_logical_name x

-- ---- values

abbrev mutual
  pub is_writable_value : PureValue → Bool
  is_writable_value (integer n) = has_128_bits n
  is_writable_value (boolean b) = true
  is_writable_value (text cs) = is_text cs
  is_writable_value (symbol n) = has_64_bits n
  is_writable_value (kind k) = true
  is_writable_value (procedure x) = is_name x
  is_writable_value (list vs) = are_writable_values vs

  pub are_writable_values : PureValues → Bool
  are_writable_values no_values = true
  are_writable_values (value_and v vs) = is_writable_value v && are_writable_values vs

-- ---- expressions

abbrev mutual
  pub is_writable_expr : PureExpr → Bool
  is_writable_expr (literal v) = is_writable_value v && is_spellable v
  is_writable_expr (name x) = is_variable x
  is_writable_expr (logical x) = is_logical_name x
  is_writable_expr (list_of es) = are_writable_exprs es
  is_writable_expr (unary_of op e) = is_writable_expr e
  is_writable_expr (binary_of op d e) = is_writable_expr d && is_writable_expr e

  pub are_writable_exprs : PureExprs → Bool
  are_writable_exprs no_exprs = true
  are_writable_exprs (expr_and e es) = is_writable_expr e && are_writable_exprs es

-- ---- specifications

abbrev pub is_writable_param : Param → Bool
is_writable_param q = is_name q.name

abbrev pub is_writable_logical : Param → Bool
is_writable_logical q = is_logical_name q.name

-- what a predicate may be called
abbrev pub is_predicate_name : List ℕ → Bool
is_predicate_name x = is_name x && not (bytes_eq x (codes "not"))

abbrev pub is_writable_use : PurePredUse → Bool
is_writable_use u = is_predicate_name u.pred && are_writable_exprs (from_list u.ins) && are_writable_exprs (from_list u.outs)

abbrev pub is_writable_item : PureItem → Bool
is_writable_item (pure e) = is_writable_expr e && may_be_item e
is_writable_item (uses u) = is_writable_use u

abbrev pub is_writable_assertion : List PureItem → Bool
is_writable_assertion items = list_all is_writable_item items

-- the names of a specification
abbrev pub has_writable_names : PureSpec → Bool
has_writable_names s = is_name s.name && list_all is_writable_param s.params && list_all is_writable_logical s.logicals

-- what is asserted before it and after it
abbrev pub has_writable_assertions : PureSpec → Bool
has_writable_assertions s = is_writable_assertion s.pre && list_all is_writable_assertion s.posts && list_all is_writable_assertion s.errors

abbrev pub is_writable_spec : PureSpec → Bool
is_writable_spec s = has_writable_names s && has_writable_assertions s

-- ---- proofs

abbrev pub is_writable_factor : Factor → Bool
is_writable_factor f = has_64_bits f.atom && has_128_bits f.factor

abbrev pub is_writable_end : ChainEnd → Bool
is_writable_end ChainEnd.Literals = true
is_writable_end ChainEnd.Kinds = true
is_writable_end ChainEnd.Fresh = true
is_writable_end (ChainEnd.Not i) = has_64_bits i
is_writable_end (ChainEnd.Kind i) = has_64_bits i
is_writable_end (ChainEnd.BothKinds i j) = has_64_bits i && has_64_bits j

abbrev pub is_writable_chain : List ℕ → ChainEnd → Bool
is_writable_chain is end = list_all has_64_bits is && is_writable_end end

abbrev pub is_writable_meeting : ℕ → ℕ → ℕ → Bool
is_writable_meeting i j k = has_64_bits i && has_64_bits j && has_64_bits k

abbrev mutual
  pub is_writable_proof : PureNamedProof → Bool
  is_writable_proof (sum_of fs) = list_all is_writable_factor fs
  is_writable_proof (false_at i) = has_64_bits i
  is_writable_proof (chain is end) = is_writable_chain is end
  is_writable_proof (cases_of e ps) = is_writable_expr e && are_writable_proofs ps
  is_writable_proof (values_at i ps) = has_64_bits i && are_writable_proofs ps
  is_writable_proof (parts_apart i) = has_64_bits i
  is_writable_proof (parts_at i p) = has_64_bits i && is_writable_proof p
  is_writable_proof (differ_at i ps) = has_64_bits i && are_writable_proofs ps
  is_writable_proof (split_on e p q) = is_writable_expr e && is_writable_proof p && is_writable_proof q
  is_writable_proof (meet_at i j k) = is_writable_meeting i j k

  pub are_writable_proofs : PureNamedProofs → Bool
  are_writable_proofs no_proofs = true
  are_writable_proofs (proof_and p ps) = is_writable_proof p && are_writable_proofs ps

-- ---- parts of answers

abbrev pub is_writable_place : Place → Bool
is_writable_place p = is_name p.proc && has_32_bits p.at

abbrev pub is_writable_binding : PureBinding → Bool
is_writable_binding b = is_variable_name b.name && is_writable_value b.value

abbrev pub is_writable_condition : PureCondition → Bool
is_writable_condition (holds e) = is_writable_expr e
is_writable_condition (has_value e) = is_writable_expr e

-- where a path leads, and its choices
abbrev pub is_writable_path : Place → List ℕ → Bool
is_writable_path place path = is_writable_place place && list_all has_64_bits path

-- conditions that are assumed, conditions that are asked about, and the place of one of these
abbrev pub is_writable_query : List PureCondition → List PureCondition → ℕ → Bool
is_writable_query given query outside = list_all is_writable_condition given && list_all is_writable_condition query && has_64_bits outside

abbrev pub is_writable_question : PureQuestion → Bool
is_writable_question o = is_writable_path o.place o.path && is_writable_query o.given o.query o.outside

abbrev pub is_writable_witness : PureWitness → Bool
is_writable_witness w = is_writable_path w.place w.path && list_all is_writable_binding w.with

abbrev pub is_writable_cause : PureCause → Bool
is_writable_cause (fails v w) = is_writable_value v && is_writable_witness w
is_writable_cause (lacks lack w) = is_writable_witness w
is_writable_cause (undecided_cause o) = is_writable_question o
is_writable_cause (depends x) = is_name x

-- ---- reports

abbrev pub is_writable_head : Head → Bool
is_writable_head (Head.Entry mode language entry bound) = is_name entry && has_32_bits bound
is_writable_head (Head.Check language bound) = has_32_bits bound
is_writable_head Head.Solve = true
is_writable_head (Head.Sweep size) = has_32_bits size

abbrev pub is_writable_bug : Place → PureValue → List PureValue → Bool
is_writable_bug place v inputs = is_writable_place place && is_writable_value v && are_writable_values (values.from_list inputs)

-- whether a specification is marked as cut exactly where it is open
abbrev pub is_marked : Bool → Bool → Bool
is_marked true is_cut = is_cut
is_marked false is_cut = not is_cut

abbrev pub is_writable_answer : PureAnswer → Bool
is_writable_answer (returned v) = is_writable_value v
is_writable_answer (failed v place) = is_writable_value v && is_writable_place place
is_writable_answer vanished = true
is_writable_answer cut = true
is_writable_answer (no_input draw) = has_32_bits draw
is_writable_answer (bad_input draw) = has_32_bits draw
is_writable_answer (number place) = is_writable_place place
is_writable_answer clean = true
is_writable_answer (bug place v inputs) = is_writable_bug place v inputs
is_writable_answer (undecided o) = is_writable_question o
is_writable_answer (verified x) = is_name x
is_writable_answer (vacuous x proof) = is_name x && is_writable_proof proof
is_writable_answer (unproved x cause) = is_name x && is_writable_cause cause
is_writable_answer (found spec is_cut) = is_writable_spec spec && is_marked (is_open spec) is_cut
is_writable_answer (sat bindings) = list_all is_writable_binding bindings
is_writable_answer (unsat proof) = is_writable_proof proof
is_writable_answer (unknown place) = has_64_bits place
is_writable_answer (bytes size) = has_64_bits size

abbrev pub is_writable : PureReport → Bool
is_writable r = is_writable_head r.head && list_all is_writable_answer r.answers
