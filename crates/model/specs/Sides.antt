-- Sides and tokens: "side (0 buy, offers quote; 1 sell, offers base)". Token 0 is the quote, and market n's base is token n.
use Rattle.std.specs.Prelude.{ℕ, zero, suc}
use Rattle.pricing.specs.declared.Side.{Side}
use Rattle.pricing.specs.declared.Side.TheVariants.{Buy, Sell}

-- the side of a field; one above 1 is refused (5) before it is looked at
abbrev pub side_of : ℕ → Side
side_of zero = Buy
side_of (suc n) = Sell

-- the other side
abbrev pub other : Side → Side
other Buy = Sell
other Sell = Buy

-- the first for buys, the second for sells
abbrev pub by_side {ℓ} : {A : Type ℓ} → Side → A → A → A
by_side Buy a b = a
by_side Sell a b = b

-- the token that a side offers, and the one that it gets
abbrev pub offered : Side → ℕ → ℕ
offered Buy market = 0
offered Sell market = market

abbrev pub wanted : Side → ℕ → ℕ
wanted Buy market = market
wanted Sell market = 0

-- what the maker of a bid for n base and q quote gives, and what the maker takes: the reverse of what the side does whose orders it meets
abbrev pub gives : Side → ℕ → ℕ → ℕ
gives side n q = by_side side n q

abbrev pub takes : Side → ℕ → ℕ → ℕ
takes side n q = by_side side q n
