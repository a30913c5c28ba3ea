-- What the head skips in one search.
-- Assumes nothing.
use Rattle.std.specs.Prelude.{ℕ, Bool}
use Rattle.geometry.specs.Entry.{forward_entry_of}
use Rattle.seek.specs.declared.search.Search.{Search}
use Rattle.seek.specs.Seeking.{worn_before, skips_before}

-- physical row x is worn, by the entries that are searched
abbrev pub worn_in : Search → ℕ → Bool
worn_in search x = worn_before search.s search.changed search.rows.now search.counts.now x

-- the head skips slot s
abbrev pub skips_in : Search → ℕ → Bool
skips_in search s =
    skips_before search.s (forward_entry_of search.own) search.changed search.rows.now search.counts.now s
