-- The shipped rules: their names, heads and answers.
use Rattle.std.specs.Prelude.{ℕ, List, Option, codes}
use Rattle.gil_values.specs.declared.operators.UnOp.{UnOp}
use Rattle.gil_values.specs.declared.operators.BinOp.{BinOp}
use Rattle.pure_terms.specs.Pure.{PureTerm}
use Rattle.rewrite_book.specs.declared.rules.Head.{Head}
use Rattle.rewrite_book.specs.declared.shipped_rules.ShippedRule.{ShippedRule}
use Rattle.rewrite_book.specs.declared.shipped_rules.ShippedRule.TheVariants.{PlusZero, MinusZero, TimesZero, TimesOne, NotNot, NegNeg, SameEqual, LenList, NthList}
use Rattle.rewrite_book.specs.Forms as forms

abbrev pub name_of : ShippedRule → List ℕ
name_of PlusZero = codes "plus_zero"
name_of MinusZero = codes "minus_zero"
name_of TimesZero = codes "times_zero"
name_of TimesOne = codes "times_one"
name_of NotNot = codes "not_not"
name_of NegNeg = codes "neg_neg"
name_of SameEqual = codes "same_equal"
name_of LenList = codes "len_list"
name_of NthList = codes "nth_list"

abbrev pub head_of : ShippedRule → Head
head_of PlusZero = Head.Op2 BinOp.Add
head_of MinusZero = Head.Op2 BinOp.Subtract
head_of TimesZero = Head.Op2 BinOp.Multiply
head_of TimesOne = Head.Op2 BinOp.Multiply
head_of NotNot = Head.Op1 UnOp.Not
head_of NegNeg = Head.Op1 UnOp.Neg
head_of SameEqual = Head.Op2 BinOp.Equal
head_of LenList = Head.Op1 UnOp.Len
head_of NthList = Head.Op2 BinOp.Nth

abbrev pub answer_of : ShippedRule → PureTerm → Option PureTerm
answer_of PlusZero t = forms.plus_zero t
answer_of MinusZero t = forms.minus_zero t
answer_of TimesZero t = forms.times_zero t
answer_of TimesOne t = forms.times_one t
answer_of NotNot t = forms.not_not t
answer_of NegNeg t = forms.neg_neg t
answer_of SameEqual t = forms.same_equal t
answer_of LenList t = forms.len_list t
answer_of NthList t = forms.nth_list t
