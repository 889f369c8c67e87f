-- For whatever is lent and given there is a call that met its contract, with the number and the array that the definition says; and for every capture a listing of our own. The theorems speak of something.
-- Assumes nothing.
use Rattle.refusals.specs.declared.Refusal.{Refusal}
use Rattle.std.specs.Prelude.{Some, None, Ok, Option, Result}
use Prim.Native.Nat.{ℕ, zero, suc, ◌+◌, ◌^◌, ◌<◌}
use mathlib.Core.Bool.{true}
use mathlib.Core.Path.{◌≡◌, refl, ap, sym, ◌∙◌, subst}
use mathlib.Core.List.{List, [], ◌∷◌, ◌++◌}
use native.Mathlib.Omega.{arith}
use lib.ListN.{length, replicate, length-replicate}
use Rattle.capture.specs.Block.{good}
use Rattle.entries.specs.Sent.{Sent, sent, into}
use Rattle.memory.specs.Offsets.{table_size, whole_places}
use Rattle.rules.specs.Rules as rules
use Rattle.table_bytes.specs.Layout.{emptied}
use Rattle.table.specs.Table.{set_up, next_above}
use Rattle.table.proofs.Emptied.{emptied_length}
use Rattle.feed.specs.Feed.{blocks_in, block_at, blocks_into, bad_in, counted, fed_block}
use Rattle.feed.proofs.Lengths.{blocks_length}
use Rattle.feed.proofs.Ways.{counted_all}
use Rattle.report.specs.Walked.{Walked, Walked.ended, Walked.then}
use Rattle.report.proofs.Walking.{walk_ends}
use Rattle.compare.specs.Compared.{zeros, checked}
use Rattle.compare.proofs.Laws.{bad_most}
use Rattle.compare.proofs.Ways.{whole_zeros}
use Rattle.addercoil.specs.Blocks.{Both, both, fed_into}
use Rattle.addercoil.specs.Tables.{next_said, set_up_sent}
use Rattle.arbiter.specs.Checks.{check_said}
use Rattle.display.specs.Lines.{line_buffer, header_said, line_said}
use Rattle.c_promises.proofs.Every.{lend, lend_mut, set_up_met}
use Rattle.c_listings.specs.Calls.{Header, Line, Next, FeedBlock, Check}
use Rattle.c_listings.specs.Prints.{Lines, Lines.last, Lines.line, Prints, Prints.prints}
use Rattle.c_listings.specs.Checks.{Fed, Fed.none_fed, Fed.one_fed, OurListing}
use Rattle.c_listings.proofs.Printed.{no_key_0, line_text_is, line_said_lem}
use Rattle.c_listings.proofs.Checked.{block_sent}

pub header_met : (table : List ℕ) (bad all : ℕ) (buffer : List ℕ) → Header table bad all buffer (into line_buffer buffer (header_said all table bad))
header_met table bad all buffer =
    record {
      κs = ([], ([], tt));
      args = (lend table, (bad, (all, (lend_mut buffer, tt))));
      left = (lend table, (bad, (all, (lend_mut (into line_buffer buffer (header_said all table bad)).array, tt))));
      lent = refl;
      counted = refl;
      asked = refl;
      into = refl;
      leaves = refl;
      meets = refl;
    }

pub line_met : (table : List ℕ) (key all : ℕ) (buffer : List ℕ) → Line table key all buffer (into line_buffer buffer (line_said all table key))
line_met table key all buffer =
    record {
      κs = ([], ([], tt));
      args = (lend table, (key, (all, (lend_mut buffer, tt))));
      left = (lend table, (key, (all, (lend_mut (into line_buffer buffer (line_said all table key)).array, tt))));
      lent = refl;
      its_key = refl;
      asked = refl;
      into = refl;
      leaves = refl;
      meets = refl;
    }

pub next_met : (table : List ℕ) (key : ℕ) (out : List ℕ) → Next table key out (into 1 out (next_said (next_above table key)))
next_met table key out =
    record {
      κs = ([], ([], tt));
      args = (lend table, (key, (lend_mut out, tt)));
      left = (lend table, (key, (lend_mut (into 1 out (next_said (next_above table key))).array, tt)));
      lent = refl;
      its_key = refl;
      into = refl;
      leaves = refl;
      meets = refl;
    }

pub feed_block_met : (table block : List ℕ) (bad : ℕ) (out : List ℕ) → FeedBlock table block bad out (block_sent table block bad out)
feed_block_met table block bad out =
    record {
      κs = ([], ([], ([], tt)));
      args = (lend_mut table, (lend block, (bad, (lend_mut out, tt))));
      left = (lend_mut (block_sent table block bad out).table, (lend block, (bad, (lend_mut (block_sent table block bad out).sent.array, tt))));
      lent = refl;
      brings = refl;
      counted = refl;
      into = refl;
      leaves_table = refl;
      leaves = refl;
      meets = refl;
    }

pub check_met : (capture text out : List ℕ) → Check capture text out (into 1 out (check_said (checked capture text)))
check_met capture text out =
    record {
      κs = ([], ([], ([], tt)));
      args = (lend capture, (lend text, (lend_mut out, tt)));
      left = (lend capture, (lend text, (lend_mut (into 1 out (check_said (checked capture text))).array, tt)));
      of = refl;
      brings = refl;
      into = refl;
      leaves = refl;
      meets = refl;
    }

-- ---- a table of whole places is printed

-- a buffer for a line, and an array of one entry
abbrev buffer : List ℕ
buffer = replicate line_buffer 7

module _ (s : List ℕ) (w : whole_places (length s) ≡ true) where
  next_end : {above : ℕ} → next_above s above ≡ Ok None → Next s above (7 ∷ []) (sent 0 (0 ∷ []))
  unfolding into
  next_end {above} e = subst (Next s above (7 ∷ [])) (ap (λ x. into 1 (7 ∷ []) (next_said x)) e) (next_met s above (7 ∷ []))

  next_key : {above key : ℕ} → next_above s above ≡ Ok (Some key) → Next s above (7 ∷ []) (sent 0 (key ∷ []))
  unfolding into
  next_key {above} e = subst (Next s above (7 ∷ [])) (ap (λ x. into 1 (7 ∷ []) (next_said x)) e) (next_met s above (7 ∷ []))

  line_0 : (key : ℕ) → (into line_buffer buffer (line_said 1 s key)).number ≡ 0
  unfolding into line_said
  line_0 key = rw w

  header_0 : (bad : ℕ) → (into line_buffer buffer (header_said 1 s bad)).number ≡ 0
  unfolding into header_said
  header_0 bad = rw w

  lines : {above n : ℕ} {text : List ℕ} → Walked true s above n text → Lines s 1 above text
  lines (ended e) = last (next_end e)
  lines {above} (then {key = key} {text = text} e more) =
      let l = line_met s key 1 buffer in
      subst (λ (x : List ℕ). Lines s 1 above (x ++ text)) (line_said_lem l (line_0 key) ∙ sym (line_text_is true s w key))
      (line (next_key e) (λ z. no_key_0 s above (e ∙ ap {B = Result (Option ℕ) Refusal} (λ (y : ℕ). Ok (Some y)) z)) l (line_0 key) (lines more))

  pub printed : (bad : ℕ) → (text : List ℕ) × Prints s bad 1 text
  printed bad = (_, prints (header_met s bad 1 buffer) (header_0 bad) (lines (walk_ends true s w).1.1))

-- ---- a capture is fed

module _ (table capture : List ℕ) (w : whole_places (length table) ≡ true) where
  still_whole : (k : ℕ) → whole_places (length (blocks_into table capture k)) ≡ true
  still_whole k = ap whole_places (blocks_length table capture k) ∙ w

  block_sent_lem : (k : ℕ) → bad_in capture (suc k) < 2 ^ 64 → block_sent (blocks_into table capture k) (block_at capture k) (bad_in capture k) (7 ∷ []) ≡ both (sent 0 (bad_in capture (suc k) ∷ [])) (blocks_into table capture (suc k))
  unfolding fed_into fed_block
  block_sent_lem k h =
      rw (still_whole k) (ap (λ (n : ℕ). both (sent 0 (n ∷ [])) (blocks_into table capture (suc k))) (sym (counted_all (bad_in capture k) (good (block_at capture k)) h)))

  pub fed : (k : ℕ) → k < 2 ^ 64 → Fed table capture k (blocks_into table capture k) (bad_in capture k)
  fed zero h = none_fed
  fed (suc k) h =
      let e = block_sent_lem k (omega (arith, bad_most capture (suc k))) in
      subst (λ (t : List ℕ). Fed table capture (suc k) t (bad_in capture (suc k))) (ap (λ (x : Both). x.table) e)
      (one_fed (fed k (omega arith)) (feed_block_met (blocks_into table capture k) (block_at capture k) (bad_in capture k) (7 ∷ [])) (ap (λ (x : Both). x.sent) e))

-- ---- our own listing, of every capture

set_up_zeros : set_up_sent (set_up zeros) ≡ sent 0 (emptied zeros)
unfolding set_up_sent rules.set_up
set_up_zeros = rw whole_zeros

pub our_listing : (capture : List ℕ) → length capture < 2 ^ 64 → (text : List ℕ) × OurListing capture text
our_listing capture h =
    let w : whole_places (length (emptied zeros)) ≡ true = ap whole_places (emptied_length zeros) ∙ whole_zeros in
    let table : List ℕ = blocks_into (emptied zeros) capture (blocks_in capture) in
    let p = printed table (still_whole (emptied zeros) capture w (blocks_in capture)) (bad_in capture (blocks_in capture)) in (
      p.0,
      record {
        lent = zeros;
        long = length-replicate {A = ℕ} (table_size 256) 0;
        back = set_up_sent (set_up zeros);
        begun = set_up_met zeros;
        done = ap (λ (x : Sent). x.number) set_up_zeros;
        table = table;
        bad = bad_in capture (blocks_in capture);
        fed = subst (λ (s : List ℕ). Fed s capture (blocks_in capture) table (bad_in capture (blocks_in capture))) (sym (ap (λ (x : Sent). x.array) set_up_zeros)) (fed (emptied zeros) capture w (blocks_in capture) (omega arith));
        printed = p.1;
      },
    )
