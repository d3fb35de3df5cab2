-- A sum that many workers add to: what each worker knows, and what holds of all of them between any two steps.
use Rattle.std.specs.Prelude.{◌≡◌, ℕ, ◌+◌, ◌-◌, ◌/◌, ◌%◌, ◌^◌, ◌≤◌, max, List, [], ◌∷◌, All, sum_by}
use Rattle.atomic_table.specs.Seated.{TableId}
use Rattle.indicatif_board.specs.declared.done.Account.{Account}

-- ---- shares

-- the fewest parts that a share can have after n splits in a row: the whole can be halved 2^64 times
unfoldable pub least_parts : ℕ → ℕ
least_parts splits = 2 ^ (2 ^ 64 - splits)

-- the parts of the whole
abbrev pub whole_share : ℕ
whole_share = least_parts 0

-- ---- what a worker knows

abbrev pub account : ℕ → ℕ → ℕ → Account
account parts added seen = record { parts = parts; added = added; seen = seen }

-- the first worker: the whole share, nothing added, nothing seen
abbrev pub new_account : Account
new_account = account whole_share 0 0

-- after adding n more
abbrev pub after_adding : ℕ → Account → Account
after_adding n a = record a { added = a.added + n; seen = a.seen + n }

-- a reading of the word found a sum, modulo 2^64, no less than the greatest seen before; it is the greatest seen now
abbrev pub ReadsSum : Account → ℕ → Account → Type 0
ReadsSum before found now = (now ≡ record before { seen = now.seen }) × (before.seen ≤ now.seen) × (found ≡ now.seen % 2 ^ 64)

-- the first worker after a split: half of the share and all that was added
abbrev pub own_half : Account → Account
own_half a = record a { parts = a.parts - a.parts / 2 }

-- the second worker after a split: half of the share and nothing added; it has seen the same sum
abbrev pub given_half : Account → Account
given_half a = account (a.parts / 2) 0 a.seen

-- one worker in place of two: both shares, the sum of what they added; it has seen that sum and what either saw
abbrev pub account_of_both : Account → Account → Account
account_of_both a b = account (a.parts + b.parts) (a.added + b.added) (max (max a.seen b.seen) (a.added + b.added))

-- a worker that was joined to another
abbrev pub spent_account : Account
spent_account = account 0 0 0

-- ---- what holds of all workers

-- the sum of what was added
abbrev pub all_added : List Account → ℕ
all_added accounts = sum_by (λ a. a.added) accounts

-- the shares together
abbrev pub all_parts : List Account → ℕ
all_parts accounts = sum_by (λ a. a.parts) accounts

-- a worker has seen what it added, and no more than the sum; without a share it added nothing
abbrev pub IsFair : ℕ → Account → Type 0
IsFair sum a = (a.added ≤ a.seen) × (a.seen ≤ sum) × (a.parts ≡ 0 → a.added ≡ 0)

-- between any two steps of any threads: the word is the sum of what was added, modulo 2^64, the shares are the whole, and each account is fair
abbrev pub AddsUp : List ℕ → List Account → Type 0
AddsUp words accounts =
    (words ≡ all_added accounts % 2 ^ 64 ∷ [])
    × (all_parts accounts ≡ whole_share)
    × All (IsFair (all_added accounts)) accounts

-- ---- a worker, as contracts see it

-- the identity of a sum
abbrev pub SumId : Type 0
SumId = TableId

pub record Worker : Type 0 where
  -- the sum that it adds to
  pub adds_to : SumId
  -- how often its share was halved in a row
  pub splits : ℕ
  pub account : Account

-- the worker that a new sum comes with
abbrev pub first_worker : SumId → Worker
first_worker id = record { adds_to = id; splits = 0; account = new_account }

-- the worker with another account
abbrev pub with_account : Account → Worker → Worker
with_account a w = record w { account = a }

-- a worker that was split once more
abbrev pub split_into : Account → Worker → Worker
split_into a w = record w { splits = w.splits + 1; account = a }

-- the shares of some workers together
abbrev pub shares_of : List Worker → ℕ
shares_of workers = sum_by (λ w. w.account.parts) workers

-- what some workers added together
abbrev pub added_by : List Worker → ℕ
added_by workers = sum_by (λ w. w.account.added) workers

-- these workers come from one: together they have its share and what it added, and each has seen what it had seen
pub record IsDivided (one : Worker) (workers : List Worker) : Type 0 where
  pub same_sum : All (λ w. w.adds_to ≡ one.adds_to) workers
  pub share : shares_of workers ≡ one.account.parts
  pub adds : added_by workers ≡ one.account.added
  pub sights : All (λ w. w.account.seen ≡ one.account.seen) workers
