-- What a line tells, as the code holds it.
use Rattle.std.specs.Prelude.{◌≡◌, List, ℕ, length, Option, Some, None}
use Rattle.model.specs.Job.{Line, bad, enter, show, withdraw, file, padded}
use Rattle.job.specs.declared.fields.Serial.{Serial}
use Rattle.job.specs.declared.fields.Request.{Request}
use Rattle.job.specs.declared.fields.Request.TheVariants.{Enter, Withdraw, File, Show}

-- a serial field as sixteen bytes and its length
unfoldable pub held : List ℕ → Serial
held f = record { bytes = padded f; len = length f }

-- what a line asks for: nothing where it is bad
unfoldable pub request_in : Line → Option Request
request_in bad = None
request_in (enter f) = Some (Enter (held f))
request_in (show f) = Some (Show (held f))
request_in (withdraw f) = Some (Withdraw (held f))
request_in (file f day code) = Some (File (held f) (record { day = day; code = code }))

-- what the code holds of a line is what the line tells
abbrev pub Told : Line → Option Request → Type 0
Told l r = r ≡ request_in l
