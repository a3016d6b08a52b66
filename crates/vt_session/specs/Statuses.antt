-- The statuses of the calls (docs/EMBEDDING.md, "Statuses").
use Rattle.std.specs.Prelude.{ℕ}

-- the call is done
abbrev pub DONE : ℕ
DONE = 0

-- memory was refused
abbrev pub NO_MEMORY : ℕ
NO_MEMORY = 1

-- there is no such frame, action or address
abbrev pub NO_SUCH : ℕ
NO_SUCH = 2

-- outputs wait to be taken
abbrev pub WAITING : ℕ
WAITING = 3

-- the own address is none that a node may have
abbrev pub NOT_BEGUN : ℕ
NOT_BEGUN = 4

-- the bytes are no accepted pool
abbrev pub NO_POOL : ℕ
NO_POOL = 5
