-- The ranges of documents 01 and 02, each named once.
use Rattle.std.specs.Prelude.{ℕ}

-- "Members 0 to 15. Tokens 0 to 3"
abbrev pub last_member : ℕ
last_member = 15

abbrev pub last_token : ℕ
last_token = 3

-- "Markets 1 to 3"
abbrev pub last_market : ℕ
last_market = 3

-- "Tickets 0 to 63"
abbrev pub last_ticket : ℕ
last_ticket = 63

-- "side (0 buy, offers quote; 1 sell, offers base)"
abbrev pub last_side : ℕ
last_side = 1

-- 6: "limit not 1 to 2,000,000,000"
abbrev pub highest_limit : ℕ
highest_limit = 2000000000

-- "reference price r (1 to 1,000,000,000), slack w (0 to 500,000 millionths), auction length L (1 to 64)"
abbrev pub highest_reference : ℕ
highest_reference = 1000000000

abbrev pub highest_slack : ℕ
highest_slack = 500000

abbrev pub longest_auction : ℕ
longest_auction = 64

-- the highest that a round's high bound can be: the highest reference with the highest slack
abbrev pub highest_bound : ℕ
highest_bound = 1500000000

-- "At least 4 blocks after open"
abbrev pub blocks_to_match : ℕ
blocks_to_match = 4

-- document 02, L5: "a lent list of orders, up to 64"
abbrev pub most_orders : ℕ
most_orders = 64
