-- Heads: what stands at the root of a term.
use Rattle.std.specs.Prelude.{Bool, true, false}
use Rattle.pure_terms.specs.Equality.{same_unary, same_binary}
use Rattle.pure_terms.specs.Pure.{PureTerm, list_of, unary_of, binary_of}
use Rattle.rewrite_book.specs.declared.rules.Head.{Head}

abbrev pub is_headed : Head → PureTerm → Bool
is_headed Head.List (list_of ts) = true
is_headed (Head.Op1 op) (unary_of other t) = same_unary op other
is_headed (Head.Op2 op) (binary_of other s t) = same_binary op other
is_headed _ _ = false
