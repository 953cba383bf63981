-- Reading expressions from the front of bytes, as functions: what the readers answer.
use Rattle.std.specs.Prelude.{ℕ, zero, suc, ◌+◌, Bool, true, false, ◌==◌, if◌then◌else◌, List, [], ◌∷◌, length, Option, Some, None, codes}
use Rattle.gil_values.specs.declared.kinds.Kind.TheVariants as kinds
use Rattle.gil_values.specs.declared.operators.UnOp.{UnOp}
use Rattle.gil_values.specs.declared.operators.UnOp.TheVariants as unary
use Rattle.gil_values.specs.declared.operators.BinOp.{BinOp}
use Rattle.gil_values.specs.declared.operators.BinOp.TheVariants as binary
use Rattle.gil_values.specs.Pure.{boolean, kind}
use Rattle.gil_lexer.specs.Bytes.{begins, is_name_start, hash}
use Rattle.gil_lexer.specs.Reading.{word_of}
use Rattle.gil_lexer.specs.declared.words.Word.{Word}
use Rattle.gil_lexer.specs.declared.words.Word.TheVariants as words
use Rattle.gil_syntax.specs.Pure.{PureExpr, literal, name, logical, list_of, unary_of, binary_of, from_list}
use Rattle.gil_syntax.specs.WellMade.{is_spellable}
use Rattle.value_text.specs.Reading.{Reading, ◌>>=◌, ◌or_else◌, behind, word_by, name_at, any_value_at, bracketed_at}
use Rattle.expression_text.specs.declared.leads.Lead.{Lead}
use Rattle.expression_text.specs.declared.leads.Lead.TheVariants as leads

-- ---- names

abbrev pub lead_of_word : Word → Lead
lead_of_word words.Ret = leads.Variable
lead_of_word words.Not = leads.Unary unary.Not
lead_of_word words.Neg = leads.Unary unary.Neg
lead_of_word words.Len = leads.Unary unary.Len
lead_of_word words.Kind = leads.Unary unary.Kind
lead_of_word words.Nth = leads.Nth
lead_of_word words.True = leads.Truth true
lead_of_word words.False = leads.Truth false
lead_of_word words.IntKind = leads.Kind kinds.Int
lead_of_word words.BoolKind = leads.Kind kinds.Bool
lead_of_word words.StrKind = leads.Kind kinds.Str
lead_of_word words.SymKind = leads.Kind kinds.Sym
lead_of_word words.KindKind = leads.Kind kinds.Kind
lead_of_word words.ProcKind = leads.Kind kinds.Proc
lead_of_word words.ListKind = leads.Kind kinds.List
lead_of_word words.UndefKind = leads.Kind kinds.Undef
lead_of_word words.NullKind = leads.Kind kinds.Null
lead_of_word _ = leads.Other

abbrev pub lead_of : Option Word → Lead
lead_of None = leads.Variable
lead_of (Some word) = lead_of_word word

-- ---- operators between their operands

abbrev pub rarer_operator_at : List ℕ → Reading BinOp
rarer_operator_at bytes =
    word_by (codes " and ") binary.And bytes or_else word_by (codes " or ") binary.Or bytes or_else word_by (codes " ++ ") binary.Append bytes
    or_else word_by (codes " * ") binary.Multiply bytes or_else word_by (codes " / ") binary.Divide bytes
    or_else word_by (codes " % ") binary.Remainder bytes

abbrev pub operator_at : List ℕ → Reading BinOp
operator_at bytes =
    word_by (codes " + ") binary.Add bytes or_else word_by (codes " - ") binary.Subtract bytes or_else word_by (codes " = ") binary.Equal bytes
    or_else word_by (codes " < ") binary.Less bytes or_else word_by (codes " <= ") binary.LessOrEqual bytes or_else rarer_operator_at bytes

-- ---- leaves

-- a name behind `#`, with it
unfoldable pub marked_name_at : List ℕ → Reading (List ℕ)
marked_name_at bytes = do
  after ← behind (codes "#") bytes
  x ← name_at after
  Some (hash ∷ x.0, x.1)

abbrev pub logical_at : List ℕ → Reading PureExpr
logical_at bytes = marked_name_at bytes >>= λ x. Some (logical x.0, x.1)

-- a value that a literal may be
unfoldable pub literal_at : List ℕ → Reading PureExpr
literal_at bytes = any_value_at bytes >>= λ v. if is_spellable v.0 then Some (literal v.0, v.1) else None

abbrev pub leaf_at : List ℕ → Reading PureExpr
leaf_at bytes = if begins (λ b. b == hash) bytes then logical_at bytes else literal_at bytes

-- ---- expressions with operands

module _ (read : List ℕ → Reading PureExpr) where
  unfoldable pub unary_at : UnOp → List ℕ → Reading PureExpr
  unary_at op bytes = do
    inner ← behind (codes "(") bytes
    e ← read inner
    rest ← behind (codes ")") e.1
    Some (unary_of op e.0, rest)

  unfoldable pub nth_at : List ℕ → Reading PureExpr
  nth_at bytes = do
    inner ← behind (codes "(") bytes
    d ← read inner
    after ← behind (codes ", ") d.1
    e ← read after
    rest ← behind (codes ")") e.1
    Some (binary_of binary.Nth d.0 e.0, rest)

  unfoldable pub between_at : List ℕ → Reading PureExpr
  between_at bytes = do
    inner ← behind (codes "(") bytes
    d ← read inner
    op ← operator_at d.1
    e ← read op.1
    rest ← behind (codes ")") e.1
    Some (binary_of op.0 d.0 e.0, rest)

  unfoldable pub list_at : List ℕ → Reading PureExpr
  list_at bytes = bracketed_at read bytes >>= λ es. Some (list_of (from_list es.0), es.1)

  abbrev pub led_at : Lead → List ℕ → List ℕ → Reading PureExpr
  led_at leads.Variable x bytes = Some (name x, bytes)
  led_at (leads.Unary op) x bytes = unary_at op bytes
  led_at leads.Nth x bytes = nth_at bytes
  led_at (leads.Truth b) x bytes = Some (literal (boolean b), bytes)
  led_at (leads.Kind k) x bytes = Some (literal (kind k), bytes)
  led_at leads.Other x bytes = None

  unfoldable pub named_at : List ℕ → Reading PureExpr
  named_at bytes = name_at bytes >>= λ x. led_at (lead_of (word_of x.0)) x.0 x.1

  abbrev pub opened_at : List ℕ → Reading PureExpr
  opened_at bytes =
      if begins (λ b. b == 91) bytes then list_at bytes
      else (if begins (λ b. b == 40) bytes then between_at bytes
      else (if begins is_name_start bytes then named_at bytes
      else leaf_at bytes))

-- an expression in which fewer than so many are nested
unfoldable pub expression_at : ℕ → List ℕ → Reading PureExpr
expression_at zero bytes = None
expression_at (suc n) bytes = opened_at (expression_at n) bytes

abbrev pub any_expression_at : List ℕ → Reading PureExpr
any_expression_at bytes = expression_at (length bytes + 1) bytes
