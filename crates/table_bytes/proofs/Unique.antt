-- Each public function has one answer: two that satisfy its contract both equal its definition. Of `body`, the answer is the bytes that it lends.
-- Assumes nothing.
use Prim.Native.Nat.{ℕ}
use mathlib.Core.Path.{sym, ◌∙◌}
use mathlib.Core.List.{List}
use Rattle.refusals.specs.Answers.{OneAnswer, OneOutcome}
use Rattle.table_bytes.proofs.layout.body.Kinds as body-kinds
use Rattle.table_bytes.proofs.layout.body.Reads as body
use Rattle.table_bytes.proofs.layout.clear.Kinds as clear-kinds
use Rattle.table_bytes.proofs.layout.clear.Reads as clear
use Rattle.table_bytes.proofs.layout.clock_of.Kinds as clock-of-kinds
use Rattle.table_bytes.proofs.layout.clock_of.Reads as clock-of
use Rattle.table_bytes.proofs.layout.move_clock.Kinds as move-clock-kinds
use Rattle.table_bytes.proofs.layout.move_clock.Reads as move-clock
use Rattle.table_bytes.proofs.layout.places_in.Kinds as places-in-kinds
use Rattle.table_bytes.proofs.layout.places_in.Reads as places-in
use Rattle.table_bytes.proofs.layout.put_site.Kinds as put-site-kinds
use Rattle.table_bytes.proofs.layout.put_site.Reads as put-site
use Rattle.table_bytes.proofs.layout.site_of.Kinds as site-of-kinds
use Rattle.table_bytes.proofs.layout.site_of.Reads as site-of
use Rattle.table_bytes.proofs.layout.store.Kinds as store-kinds
use Rattle.table_bytes.proofs.layout.store.Reads as store
use Rattle.table_bytes.proofs.layout.whole_places.Kinds as whole-places-kinds
use Rattle.table_bytes.proofs.layout.whole_places.Reads as whole-places
use Rattle.table_bytes.proofs.scan.find_key.Kinds as find-key-kinds
use Rattle.table_bytes.proofs.scan.find_key.Reads as find-key
use Rattle.table_bytes.proofs.scan.is_first.Kinds as is-first-kinds
use Rattle.table_bytes.proofs.scan.is_first.Reads as is-first
use Rattle.table_bytes.proofs.scan.target_of.Kinds as target-of-kinds
use Rattle.table_bytes.proofs.scan.target_of.Reads as target-of
use Rattle.table_bytes.proofs.walk.smallest_above.Kinds as smallest-above-kinds
use Rattle.table_bytes.proofs.walk.smallest_above.Reads as smallest-above

pub body_once : OneOutcome 1 body-kinds.ps body-kinds.r (List ℕ) (λ κs x left. x.now) body.Post
body_once κs args x y left left' p q = p.0 ∙ sym q.0

pub clear_once : OneOutcome 1 clear-kinds.ps clear-kinds.r (List ℕ) (λ κs x left. left.0.now) clear.Post
clear_once κs args x y left left' p q = p ∙ sym q

pub clock_of_once : OneAnswer 1 clock-of-kinds.ps clock-of-kinds.r clock-of.Post
clock_of_once κs args x y left left' p q = p ∙ sym q

pub move_clock_once : OneOutcome 1 move-clock-kinds.ps move-clock-kinds.r (List ℕ) (λ κs x left. left.0.now) move-clock.Post
move_clock_once κs args x y left left' p q = p ∙ sym q

pub places_in_once : OneAnswer 1 places-in-kinds.ps places-in-kinds.r places-in.Post
places_in_once κs args x y left left' p q = p.0 ∙ sym q.0

pub put_site_once : OneOutcome 1 put-site-kinds.ps put-site-kinds.r (List ℕ) (λ κs x left. left.0.now) put-site.Post
put_site_once κs args x y left left' p q = p ∙ sym q

pub site_of_once : OneAnswer 1 site-of-kinds.ps site-of-kinds.r site-of.Post
site_of_once κs args x y left left' p q = p ∙ sym q

pub store_once : OneOutcome 1 store-kinds.ps store-kinds.r (List ℕ) (λ κs x left. left.0.now) store.Post
store_once κs args x y left left' p q = p ∙ sym q

pub whole_places_once : OneAnswer 0 whole-places-kinds.ps whole-places-kinds.r whole-places.Post
whole_places_once κs args x y left left' p q = p ∙ sym q

pub find_key_once : OneAnswer 1 find-key-kinds.ps find-key-kinds.r find-key.Post
find_key_once κs args x y left left' p q = p ∙ sym q

pub is_first_once : OneAnswer 1 is-first-kinds.ps is-first-kinds.r is-first.Post
is_first_once κs args x y left left' p q = p ∙ sym q

pub target_of_once : OneAnswer 1 target-of-kinds.ps target-of-kinds.r target-of.Post
target_of_once κs args x y left left' p q = p ∙ sym q

pub smallest_above_once : OneAnswer 1 smallest-above-kinds.ps smallest-above-kinds.r smallest-above.Post
smallest_above_once κs args x y left left' p q = p ∙ sym q
