-- Reading the parts of answers, as functions: what the readers answer.
use Rattle.std.specs.Prelude.{ℕ, ◌==◌, if◌then◌else◌, List, Some, codes}
use Rattle.gil_values.specs.declared.places.Place.{Place}
use Rattle.gil_lexer.specs.Bytes.{begins, hash}
use Rattle.pure_terms.specs.declared.variables.Sort.{Sort}
use Rattle.pure_terms.specs.declared.variables.Sort.TheVariants as sorts
use Rattle.value_text.specs.Reading.{Reading, ◌>>=◌, ◌or_else◌, behind, behind_or, word_by, name_at, natural_at, any_value_at, bracketed_at}
use Rattle.expression_text.specs.Reading.{marked_name_at, any_expression_at}
use Rattle.gil_report.specs.declared.answers.Lack.{Lack}
use Rattle.gil_report.specs.declared.answers.Lack.TheVariants as wants
use Rattle.gil_report.specs.Pure.{PureBinding, PureCondition, holds, has_value, PureQuestion, PureWitness, PureCause, fails, lacks, undecided_cause, depends}

-- `main:4`
unfoldable pub place_at : List ℕ → Reading Place
place_at bytes = do
  x ← name_at bytes
  inner ← behind (codes ":") x.1
  n ← natural_at 32 inner
  Some (record { proc = x.0; at = n.0 }, n.1)

abbrev pub choices_at : List ℕ → Reading (List ℕ)
choices_at bytes = bracketed_at (natural_at 64) bytes

-- ---- sorts

abbrev pub rarer_sort_at : List ℕ → Reading Sort
rarer_sort_at bytes = word_by (codes "list") sorts.List bytes or_else word_by (codes "any") sorts.Any bytes or_else word_by (codes "fresh") sorts.Fresh bytes

abbrev pub sort_at : List ℕ → Reading Sort
sort_at bytes =
    word_by (codes "int") sorts.Int bytes or_else word_by (codes "bool") sorts.Bool bytes or_else word_by (codes "str") sorts.Str bytes
    or_else word_by (codes "sym") sorts.Sym bytes or_else rarer_sort_at bytes

abbrev pub sorts_at : List ℕ → Reading (List Sort)
sorts_at bytes = bracketed_at sort_at bytes

-- ---- variables and their values

abbrev pub variable_at : List ℕ → Reading (List ℕ)
variable_at bytes = if begins (λ b. b == hash) bytes then marked_name_at bytes else name_at bytes

unfoldable pub binding_at : List ℕ → Reading PureBinding
binding_at bytes = do
  x ← variable_at bytes
  after ← behind (codes " = ") x.1
  v ← any_value_at after
  Some (record { name = x.0; value = v.0 }, v.1)

abbrev pub bindings_at : List ℕ → Reading (List PureBinding)
bindings_at bytes = bracketed_at binding_at bytes

-- ---- conditions

unfoldable pub open_at : List ℕ → Reading PureCondition
open_at bytes = do
  e ← any_expression_at bytes
  rest ← behind (codes ")") e.1
  Some (has_value e.0, rest)

abbrev pub condition_at : List ℕ → Reading PureCondition
condition_at bytes = behind_or (behind (codes "open(") bytes) open_at (any_expression_at bytes >>= λ e. Some (holds e.0, e.1))

abbrev pub conditions_at : List ℕ → Reading (List PureCondition)
conditions_at bytes = bracketed_at condition_at bytes

-- ---- questions and witnesses

unfoldable pub question_at : List ℕ → Reading PureQuestion
question_at bytes = do
  place ← place_at bytes
  before_path ← behind (codes " path ") place.1
  path ← choices_at before_path
  before_vars ← behind (codes " vars ") path.1
  vars ← sorts_at before_vars
  before_given ← behind (codes " given ") vars.1
  given ← conditions_at before_given
  before_query ← behind (codes " query ") given.1
  query ← conditions_at before_query
  before_outside ← behind (codes " outside ") query.1
  outside ← natural_at 64 before_outside
  Some (record { place = place.0; path = path.0; vars = vars.0; given = given.0; query = query.0; outside = outside.0 }, outside.1)

unfoldable pub witness_at : List ℕ → Reading PureWitness
witness_at bytes = do
  place ← place_at bytes
  before_path ← behind (codes " path ") place.1
  path ← choices_at before_path
  before_with ← behind (codes " with ") path.1
  bound ← bindings_at before_with
  Some (record { place = place.0; path = path.0; with = bound.0 }, bound.1)

-- ---- causes

unfoldable pub fails_at : List ℕ → Reading PureCause
fails_at bytes = do
  v ← any_value_at bytes
  after ← behind (codes " ") v.1
  w ← witness_at after
  Some (fails v.0 w.0, w.1)

unfoldable pub undecided_at : List ℕ → Reading PureCause
undecided_at bytes = question_at bytes >>= λ o. Some (undecided_cause o.0, o.1)

unfoldable pub depends_at : List ℕ → Reading PureCause
depends_at bytes = name_at bytes >>= λ x. Some (depends x.0, x.1)

-- what a path lacks, with the blank behind it
abbrev pub lack_at : List ℕ → Reading Lack
lack_at bytes =
    word_by (codes "missing ") wants.Missing bytes or_else word_by (codes "post ") wants.Post bytes or_else word_by (codes "invariant ") wants.Invariant bytes
    or_else word_by (codes "callpre ") wants.CallPre bytes or_else word_by (codes "foldbody ") wants.FoldBody bytes
    or_else word_by (codes "cut ") wants.Cut bytes

unfoldable pub lacks_at : List ℕ → Reading PureCause
lacks_at bytes = do
  lack ← lack_at bytes
  w ← witness_at lack.1
  Some (lacks lack.0 w.0, w.1)

abbrev pub cause_at : List ℕ → Reading PureCause
cause_at bytes =
    behind_or (behind (codes "fails ") bytes) fails_at
    (behind_or (behind (codes "unknown ") bytes) undecided_at
    (behind_or (behind (codes "depends ") bytes) depends_at
    (lacks_at bytes)))
