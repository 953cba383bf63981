-- Data that their compact text keeps: whole numbers without sign, of 64 bits; texts of ASCII; in each object the keys in the order of
-- their bytes; arrays and objects nested no deeper than a number.
use Rattle.std.specs.Prelude.{◌≡◌, ◌<◌, ◌^◌, ℕ, zero, suc, Bool, List, IsTrue, nat_lt}
use Rattle.std.specs.List.{list_all}
use Rattle.serde_json.specs.Data.{Data, null, boolean, number, unsigned, negative, float, string, array, object, Items, no_items, item, Members, no_members, member, put}

abbrev pub is_ascii_text : List ℕ → Bool
is_ascii_text s = list_all (λ b. nat_lt b 128) s

-- the members, and one behind them
abbrev pub with_last : List ℕ → Data → Members → Members
with_last k d no_members = member k d no_members
with_last k d (member l e ms) = member l e (with_last k d ms)

-- each key comes behind those that were found before it
abbrev pub Ascend : Members → Members → Type 0
Ascend no_members found = Unit {0}
Ascend (member k d ms) found = (put k d found ≡ with_last k d found) × Ascend ms (with_last k d found)

abbrev mutual
  pub IsKept : Data → ℕ → Type 0
  IsKept null n = Unit {0}
  IsKept (boolean b) n = Unit {0}
  IsKept (number (unsigned m)) n = m < 2 ^ 64
  IsKept (number (negative z)) n = ⊥
  IsKept (number (float x)) n = ⊥
  IsKept (string s) n = IsTrue (is_ascii_text s)
  IsKept (array ds) zero = ⊥
  IsKept (array ds) (suc n) = AreKept ds n
  IsKept (object ms) zero = ⊥
  IsKept (object ms) (suc n) = Ascend ms no_members × MembersAreKept ms n

  pub AreKept : Items → ℕ → Type 0
  AreKept no_items n = Unit {0}
  AreKept (item d ds) n = IsKept d n × AreKept ds n

  pub MembersAreKept : Members → ℕ → Type 0
  MembersAreKept no_members n = Unit {0}
  MembersAreKept (member k d ms) n = IsTrue (is_ascii_text k) × IsKept d n × MembersAreKept ms n
