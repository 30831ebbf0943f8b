-- Document 02 §5: what a meter counts. "per resource, how many grants and cuts there were and the longest wait that ended in a grant"; "All
-- these numbers are 32 bits wide and stay at their top."
use Rattle.std.specs.Prelude.{ℕ, ◌+◌, Bool, false, cond, ◌&&◌, List, ltb, get_or, replicate}
use Rattle.sizes.specs.Sizes.{most_resources}
use Rattle.folds.specs.Each.{each_below}
use Rattle.meters.specs.declared.Meter.{Meter}
use Rattle.meters.specs.declared.Mark.{Mark}

-- the top of 32 bits
abbrev pub top_count : ℕ
top_count = 4294967295

-- one more where it is counted, up to the top
unfoldable pub one_more : Bool → ℕ → ℕ
one_more on n = cond (on && ltb n top_count) (n + 1) n

-- the longer of this wait and the longest so far, where a grant ended it
unfoldable pub longer : Bool → ℕ → ℕ → ℕ
longer on waited n = cond (on && ltb n waited) waited n

-- a meter once a mark is counted
unfoldable pub counted : Meter → Mark → Meter
counted m k =
    record {
      grants = one_more k.granted m.grants;
      cuts = one_more k.cut m.cuts;
      longest = longer k.granted k.waited m.longest;
    }

-- a meter that has counted nothing
abbrev pub no_meter : Meter
no_meter = record { grants = 0; cuts = 0; longest = 0 }

-- the mark of a resource to which a call did nothing
abbrev pub no_mark : Mark
no_mark = record { cut = false; granted = false; waited = 0 }

-- "a start sets them to 0"
abbrev pub no_meters : List Meter
no_meters = replicate most_resources no_meter

-- "one meter per resource, 16 in all": each once its mark is counted
unfoldable pub counted_each : List Meter → List Mark → List Meter
counted_each ms ks = each_below no_meter (λ q m. counted m (get_or ks q no_mark)) most_resources ms
