-- Two runs side by side, whatever the rule and whatever is kept beside the table: if each call did what a rule says, C is told what an aircraft sees by the rule. What `addercoil_look_up` writes is told by the track that
-- the table holds.
-- Assumes nothing.
use Rattle.std.specs.Prelude.{Result, Option, Some, None, Ok}
use Prim.Native.Nat.{ℕ}
use mathlib.Core.Bool.{Bool, true, false, cond, false≢true}
use mathlib.Core.Path.{◌≡◌, ap, ap₂, sym, ◌∙◌}
use mathlib.Core.List.{List, [], ◌∷◌}
use borrow.Author.Tests.{eq-eqb}
use lib.ListN.{length}
use Rattle.entries.specs.Arrays.{filled}
use Rattle.entries.specs.Sent.{Sent, sent, into}
use Rattle.track.specs.declared.Track.{Track}
use Rattle.track_rows.specs.Held.{looked_said}
use Rattle.track_rows.specs.Tracks.{track_row}
use Rattle.rules.specs.Form.{Form}
use Rattle.rules.specs.View as rules-view
use Rattle.rules.proofs.Laws.{looked_up_lem}
use Rattle.table.specs.Bytes.{bytes}
use Rattle.table.specs.Heard.{heard_as}
use Rattle.table.specs.Table.{looked_up}
use Rattle.table.specs.View.{view}
use Rattle.isolation.specs.Runs.{Call, own, Alike, Alike.end, Alike.its, Alike.others, Rule, call, NeverFull, Seen, saw, seen}
use Rattle.addercoil.specs.Done.{done_number}
use Rattle.c_promises.specs.Calls.{LookUp}
use Rattle.c_promises.specs.Runs.{Never6, SameTrack, SameTo}
use Rattle.messages.specs.declared.Message.{Message}
use Rattle.refusals.specs.declared.Refusal.{Refusal}

-- ---- what is written of a track

pub look_up_is : {table : List ℕ} {key : ℕ} {track : List ℕ} {back : Sent} → LookUp table key track back → back ≡ into 72 track (looked_said key (looked_up table key))
look_up_is {table} {key} {track} {back} b =
    ap (sent back.number) (sym b.leaves)
    ∙ b.meets
    ∙ ap₂ (λ (s : List ℕ) (k : ℕ). into 72 b.args.1.1.0.now (looked_said k (looked_up s k))) b.lent b.asks
    ∙ ap (λ (l : List ℕ). into 72 l (looked_said key (looked_up table key))) b.into

abbrev pub row_of : ℕ → Option Track → List ℕ
row_of key None = 0 ∷ []
row_of key (Some t) = track_row key t

pub written : (key : ℕ) (track : List ℕ) (v : Option Track) → length track ≡ 72 → into 72 track (looked_said key (Ok v)) ≡ sent 0 (filled 72 (row_of key v))
unfolding into
written key track None h = rw (eq-eqb _ _ h) (ap (λ (n : ℕ). sent 0 (filled n (0 ∷ []))) h)
written key track (Some t) h = rw (eq-eqb _ _ h) (ap (λ (n : ℕ). sent 0 (filled n (track_row key t))) h)

pub writes : {table : List ℕ} {key : ℕ} {track : List ℕ} {back : Sent} → bytes.whole table ≡ true → length track ≡ 72 → LookUp table key track back
    → back ≡ sent 0 (filled 72 (row_of key (view table key)))
writes {table} {key} {track} w h b =
    look_up_is b ∙ ap (λ (l : Result (Option Track) Refusal). into 72 track (looked_said key l)) (looked_up_lem bytes table key w) ∙ written key track (view table key) h

pub same_track : (key : ℕ) (table other : List ℕ) → bytes.whole table ≡ true → bytes.whole other ≡ true → view table key ≡ view other key → SameTrack key table other
same_track key table other w v e track track' x y h g a b =
    let p = writes w h a in
    let q = writes v g b in (
      ap (λ (z : Sent). z.number) p,
      ap (λ (z : Sent). z.number) q,
      ap (λ (z : Sent). z.array) (p ∙ ap (λ (z : Option Track). sent 0 (filled 72 (row_of key z))) e ∙ sym q),
    )

-- ---- calls that did what a rule says

-- each returned the number of what the rule answers, and left the table in what the rule leaves, of whole places
pub data Followed {S : Type 0} (rule : Rule S) (table_in : S → List ℕ) : S → List Call → List Sent → Type 0 where
  no_more : {s : S} → Followed rule table_in s [] []
  one_more : {s : S} {c : Call} {x : Sent} {cs : List Call} {xs : List Sent}
      → x.number ≡ done_number (heard_as (call rule s c).answer) → x.array ≡ table_in (call rule s c).table → bytes.whole x.array ≡ true
      → Followed rule table_in (call rule s c).table cs xs → Followed rule table_in s (c ∷ cs) (x ∷ xs)

same_answer : {a b : Result Message Refusal} (o : Bool) → o ≡ true → cond o (Some a) None ≡ cond o (Some b) None → a ≡ b
same_answer true h e = cc
same_answer false h e = absurd (false≢true h)

-- what is kept shows a key's track as the table in it does
module _ {S : Type 0} (F : Form S) (rule : Rule S) (table_in : S → List ℕ) (shows : (s : S) (key : ℕ) → rules-view.view F s key ≡ view (table_in s) key) (key : ℕ) where
  pub never_full : {s : S} {cs : List Call} {xs : List Sent} → Followed rule table_in s cs xs → Never6 key cs xs → NeverFull rule key s cs
  never_full no_more n = tt
  never_full (one_more number_is table_is w more) n = (λ o a. n.0 o (number_is ∙ ap (λ (d : Result Message Refusal). done_number (heard_as d)) a), never_full more n.1)

  abbrev Sees : S → List Call → List Seen
  Sees s cs = seen F rule key s cs

  abbrev saw_of : S → Call → Seen
  saw_of s c = saw F key c (call rule s c)

  -- one call in both
  module _ (s t : S) (c d : Call) (h : saw_of s c ≡ saw_of t d) {x y : List ℕ} (x-is : x ≡ table_in (call rule s c).table) (y-is : y ≡ table_in (call rule t d).table) where
    one_track : bytes.whole x ≡ true → bytes.whole y ≡ true → SameTrack key x y
    one_track w v =
        same_track key x y w v
        (ap (λ (z : List ℕ). view z key) x-is
        ∙ sym (shows (call rule s c).table key)
        ∙ ap (λ (z : Seen). z.track) h
        ∙ shows (call rule t d).table key
        ∙ sym (ap (λ (z : List ℕ). view z key) y-is))

  pub side_by_side : {s t : S} {cs ds : List Call} {xs ys : List Sent} → Alike key cs ds → Followed rule table_in s cs xs → Followed rule table_in t ds ys → Sees s cs ≡ Sees t ds → SameTo key cs xs ys
  side_by_side end no_more no_more e = tt
  side_by_side {s} {t} (its c {xs = cs} {ys = ds} o more) (one_more a-is a-left w p) (one_more b-is b-left v q) e =
      let h : saw_of s c ≡ saw_of t c = cc in
      let r : Sees (call rule s c).table cs ≡ Sees (call rule t c).table ds = cc in (
        λ z. a-is ∙ ap (λ (d : Result Message Refusal). done_number (heard_as d)) (same_answer (own key c) z (ap (λ (k : Seen). k.answer) h)) ∙ sym b-is,
        one_track s t c c h a-left b-left w v,
        side_by_side {s = (call rule s c).table} {t = (call rule t c).table} more p q r,
      )
  side_by_side {s} {t} (others c d {xs = cs} {ys = ds} o n i more) (one_more a-is a-left w p) (one_more b-is b-left v q) e =
      let h : saw_of s c ≡ saw_of t d = cc in
      let r : Sees (call rule s c).table cs ≡ Sees (call rule t d).table ds = cc in (
        λ z. absurd (false≢true (sym o ∙ z)),
        one_track s t c d h a-left b-left w v,
        side_by_side {s = (call rule s c).table} {t = (call rule t d).table} more p q r,
      )
