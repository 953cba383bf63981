-- Sorts, and the kind that a term's form and its variables' sorts tell.
use Rattle.std.specs.Prelude.{ℕ, Bool, true, false, Option, Some, None, nat_eq}
use Rattle.std.specs.Option.{option_or}
use Rattle.gil_values.specs.declared.kinds.Kind.{Kind}
use Rattle.gil_values.specs.declared.operators.UnOp.{UnOp}
use Rattle.gil_values.specs.declared.operators.BinOp.{BinOp}
use Rattle.gil_values.specs.Equality.{same_kind}
use Rattle.gil_values.specs.Pure.{PureValue, kind_of}
use Rattle.pure_terms.specs.declared.literals.Literal.{Literal}
use Rattle.pure_terms.specs.declared.variables.Sort.{Sort}
use Rattle.pure_terms.specs.Pure.{PureTerm, literal, variable, list_of, unary_of, binary_of}

-- the sorts in their order
abbrev pub sort_number : Sort → ℕ
sort_number Sort.Int = 0
sort_number Sort.Bool = 1
sort_number Sort.Str = 2
sort_number Sort.Sym = 3
sort_number Sort.Fresh = 4
sort_number Sort.List = 5
sort_number Sort.Any = 6

abbrev pub same_sort : Sort → Sort → Bool
same_sort s t = nat_eq (sort_number s) (sort_number t)

-- the kind of the values of a sort; the values of sort any have no one kind
abbrev pub kind_of_sort : Sort → Option Kind
kind_of_sort Sort.Int = Some Kind.Int
kind_of_sort Sort.Bool = Some Kind.Bool
kind_of_sort Sort.Str = Some Kind.Str
kind_of_sort Sort.Sym = Some Kind.Sym
kind_of_sort Sort.Fresh = Some Kind.Sym
kind_of_sort Sort.List = Some Kind.List
kind_of_sort Sort.Any = None

-- the kind, where one is told, is this one
abbrev pub allows : Option Kind → Kind → Bool
allows (Some k) l = same_kind k l
allows None l = true

abbrev pub is_of_kind : Option Kind → Kind → Bool
is_of_kind (Some k) l = same_kind k l
is_of_kind None l = false

-- the value is one of the sort
abbrev pub has_sort : Sort → PureValue → Bool
has_sort s v = allows (kind_of_sort s) (kind_of v)

abbrev pub kind_of_literal : Literal → Kind
kind_of_literal (Literal.Int n) = Kind.Int
kind_of_literal (Literal.Bool b) = Kind.Bool
kind_of_literal (Literal.Str cs) = Kind.Str
kind_of_literal (Literal.Kind k) = Kind.Kind
kind_of_literal (Literal.Proc name) = Kind.Proc

-- the kind of an operator's results
abbrev pub kind_of_unary : UnOp → Kind
kind_of_unary UnOp.Not = Kind.Bool
kind_of_unary UnOp.Neg = Kind.Int
kind_of_unary UnOp.Len = Kind.Int
kind_of_unary UnOp.Kind = Kind.Kind

-- `++` has results of the kind of its operands, and those of `nth` may have any kind
abbrev pub kind_of_binary : BinOp → Option Kind → Option Kind → Option Kind
kind_of_binary BinOp.Add k l = Some Kind.Int
kind_of_binary BinOp.Subtract k l = Some Kind.Int
kind_of_binary BinOp.Multiply k l = Some Kind.Int
kind_of_binary BinOp.Divide k l = Some Kind.Int
kind_of_binary BinOp.Remainder k l = Some Kind.Int
kind_of_binary BinOp.Equal k l = Some Kind.Bool
kind_of_binary BinOp.Less k l = Some Kind.Bool
kind_of_binary BinOp.LessOrEqual k l = Some Kind.Bool
kind_of_binary BinOp.And k l = Some Kind.Bool
kind_of_binary BinOp.Or k l = Some Kind.Bool
kind_of_binary BinOp.Append k l = option_or k l
kind_of_binary BinOp.Nth k l = None

-- the kind that a term has by its form and by its variables' sorts, where these tell one
abbrev pub known_kind : PureTerm → Option Kind
known_kind (literal l) = Some (kind_of_literal l)
known_kind (variable x) = kind_of_sort x.sort
known_kind (list_of ts) = Some Kind.List
known_kind (unary_of op t) = Some (kind_of_unary op)
known_kind (binary_of op s t) = kind_of_binary op (known_kind s) (known_kind t)
