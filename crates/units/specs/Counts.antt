-- The three sorts of count, and the largest number of document 01.
use Rattle.std.specs.Prelude.{ℕ, ◌+◌, ◌-◌, cond, ltb, Option, None, Some}
use Rattle.units.specs.declared.Amount.{Amount}
use Rattle.units.specs.declared.Price.{Price}
use Rattle.units.specs.declared.Block.{Block}

abbrev pub amount : ℕ → Amount
amount n = record { 0 = n }

abbrev pub price : ℕ → Price
price n = record { 0 = n }

abbrev pub block : ℕ → Block
block n = record { 0 = n }

-- "All numbers are decimal whole numbers 0 to 4,294,967,295": 2^32 - 1
abbrev pub largest : ℕ
largest = 4294967295

-- the sum of two amounts where it is a number, and one less another that it covers
abbrev pub sum_if_fits : ℕ → ℕ → Option Amount
sum_if_fits a b = cond (ltb largest (a + b)) None (Some (amount (a + b)))

abbrev pub rest_if_within : ℕ → ℕ → Option Amount
rest_if_within a b = cond (ltb a b) None (Some (amount (a - b)))

-- a price counts millionths
abbrev pub million : ℕ
million = 1000000
