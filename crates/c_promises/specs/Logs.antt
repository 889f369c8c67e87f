-- RULES 13.3 and 13.5: a replay as C sees it. Its track equals the table's track after the same records from a set-up with the same site, held or absent, if the table never answered 6 for that key.
use Rattle.std.specs.Prelude.{ℕ, ◌+◌, ◌*◌, ◌≤◌, ◌<◌, ◌≡◌, List, [], ◌∷◌, length, Option, Some, None}
use Rattle.refusals.specs.Numbers.{most_records}
use Rattle.keys.specs.Keys.{addresses, flags, stations, kinds, first_coarse}
use Rattle.entries.specs.Sent.{Sent}
use Rattle.isolation.specs.Runs.{Call}
use Rattle.isolation.specs.Logs.{log_of}
use Rattle.c_promises.specs.Calls.{LookUp, Replay, ReplayAt, ReplayCoarse}
use Rattle.c_promises.specs.Runs.{Site, Run, Never6}

-- the table that the last of some calls left
abbrev pub left_by : List ℕ → List Sent → List ℕ
left_by table [] = table
left_by table (back ∷ backs) = left_by back.array backs

abbrev pub left_of : {site : Option Site} {cs : List Call} {backs : List Sent} → Run site cs backs → List ℕ
left_of {site} {cs} {backs} run = left_by run.back.array backs

-- the keys of the header: ADDERCOIL_KEY_OF, ADDERCOIL_KEY_COARSE
abbrev pub key_of : ℕ → ℕ → ℕ
key_of kind address = kind * addresses + address

abbrev pub key_coarse : ℕ → ℕ → ℕ → ℕ
key_coarse address flag station = first_coarse + flags * stations * address + stations * flag + station

-- what a replay says is what addercoil_look_up says of a table, each with an array of ADDERCOIL_TRACK entries: both return 0, and write the same entries
abbrev pub SameAsTable : (List ℕ → Sent → Type 0) → List ℕ → ℕ → Type 0
SameAsTable Replayed table key =
    (track track' : List ℕ) (x y : Sent) → length track ≡ 72 → length track' ≡ 72 → Replayed track x → LookUp table key track' y
    → (x.number ≡ 0) × (y.number ≡ 0) × (x.array ≡ y.array)

-- addercoil_replay of a log, or addercoil_replay_at with a site
abbrev pub ReplayBy : Option Site → List ℕ → ℕ → ℕ → List ℕ → Sent → Type 0
ReplayBy None log kind address track back = Replay log kind address track back
ReplayBy (Some site) log kind address track back = ReplayAt log kind address site.latitude site.longitude track back

-- a run with a site or with none, of at most 2,900 records, none of which returned 6 with a message of the key: kinds I to N
abbrev pub Replays : Type 0
Replays =
    (kind address : ℕ) → 1 ≤ kind → kind ≤ length kinds → address < addresses
    → (site : Option Site) (cs : List Call) (backs : List Sent) (run : Run site cs backs) → length cs ≤ most_records → Never6 (key_of kind address) cs backs
    → SameAsTable (ReplayBy site (log_of cs) kind address) (left_of run) (key_of kind address)

-- kind C: from a set-up with a site too, for which it has no use
abbrev pub ReplaysCoarse : Type 0
ReplaysCoarse =
    (address flag station : ℕ) → address < addresses → flag < flags → station < stations
    → (site : Option Site) (cs : List Call) (backs : List Sent) (run : Run site cs backs) → length cs ≤ most_records → Never6 (key_coarse address flag station) cs backs
    → SameAsTable (ReplayCoarse (log_of cs) address flag station) (left_of run) (key_coarse address flag station)
