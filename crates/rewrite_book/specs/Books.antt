-- The rules of a book.
use Rattle.std.specs.Prelude.{List}
use Rattle.rewrite_book.specs.declared.book.RuleBook.{RuleBook}
use Rattle.rewrite_book.specs.declared.rules.Rule.{Rule}

-- in the order in which they are asked, whatever closures they keep
abbrev pub rules_of : {V : Type 0} {F : V → Type 0} {g : _} → RuleBook V F g → List (Rule V F g)
rules_of book = book.rules.items
