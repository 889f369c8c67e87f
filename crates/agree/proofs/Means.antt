-- A line agrees exactly if it has our key and other columns, and figures within one unit: the nine texts are the relation of RULES 14.4. And our own line agrees.
-- Assumes nothing.
use Rattle.std.specs.Prelude.{Option, Some, None}
use Prim.Native.Nat.{ℕ, suc, ◌+◌, ◌-◌, ◌%◌, ◌^◌, ◌<◌}
use mathlib.Core.Path.{◌≡◌, refl, sym, ap, subst, ◌∙◌}
use mathlib.Core.Logic.{◌⊎◌, inl, inr, ◌↔◌}
use mathlib.Core.Bool.{Bool, true, false, cond, ◌||◌}
use mathlib.Core.List.{List}
use native.Mathlib.Omega.{arith}
use borrow.Author.Tests.{lt-ltb, le-ltb, ltb-true, ltb-false}
use lib.Dec.{ltb}
use lib.IntN.{ℤ, pos, negsuc, nat_abs, ◌+ℤ◌, ◌-ℤ◌}
use lib.Signed.{lt_z, mag}
use Rattle.text.specs.declared.Row.{Row}
use Rattle.text.specs.Lines.{row_text}
use Rattle.form.specs.Form.{same}
use Rattle.form.proofs.Loops.{same_equal}
use Rattle.fields.proofs.Bools.{by_test}
use Rattle.form.specs.Own.{Sized}
use Rattle.form.proofs.Named.{figures_one}
use Rattle.form.proofs.Pieces.{same_self}
use Rattle.agree.specs.Near.{placed, UnitApart, Latitudes, no_latitude, latitude_within, Longitudes, no_longitude, longitude_within, Agrees, up, down, east, west, moved, shows, along, agrees_of}
use Rattle.agree.specs.Ours.{OnGlobe, OnCircle, Placed}

-- ---- one of three

abbrev OneOf : Option ℤ → Option ℤ → Option ℤ → Option ℤ → Type 0
OneOf y a b c = (y ≡ a) ⊎ ((y ≡ b) ⊎ (y ≡ c))

three : (a b c : Bool) → a || b || c ≡ true → (a ≡ true) ⊎ ((b ≡ true) ⊎ (c ≡ true))
three true b c e = inl refl
three false true c e = inr (inl refl)
three false false c e = inr (inr e)

three_back : (a b c : Bool) → (a ≡ true) ⊎ ((b ≡ true) ⊎ (c ≡ true)) → a || b || c ≡ true
three_back a b c (inl e) = ap (λ (t : Bool). t || b || c) e
three_back true b c (inr (inl e)) = refl
three_back false b c (inr (inl e)) = ap (λ (t : Bool). t || c) e
three_back true b c (inr (inr e)) = refl
three_back false true c (inr (inr e)) = refl
three_back false false c (inr (inr e)) = e

-- ---- latitudes

low_by : (z : ℤ) (t : Bool) → UnitApart (cond t (z -ℤ pos 1) z) z
low_by z true = inr (inr refl)
low_by z false = inl refl

high_by : (z : ℤ) (t : Bool) → UnitApart (cond t (z +ℤ pos 1) z) z
high_by z true = inr (inl refl)
high_by z false = inl refl

latitudes_near : (y f : Option ℤ) → OneOf y (moved down f) f (moved up f) → Latitudes y f
latitudes_near y None (inl e) = subst (λ (x : Option ℤ). Latitudes x None) (sym e) no_latitude
latitudes_near y None (inr (inl e)) = subst (λ (x : Option ℤ). Latitudes x None) (sym e) no_latitude
latitudes_near y None (inr (inr e)) = subst (λ (x : Option ℤ). Latitudes x None) (sym e) no_latitude
latitudes_near y (Some z) (inl e) = subst (λ (x : Option ℤ). Latitudes x (Some z)) (sym e) (latitude_within (low_by z (lt_z (negsuc 4611686018427387903) z)))
latitudes_near y (Some z) (inr (inl e)) = subst (λ (x : Option ℤ). Latitudes x (Some z)) (sym e) (latitude_within (inl refl))
latitudes_near y (Some z) (inr (inr e)) = subst (λ (x : Option ℤ). Latitudes x (Some z)) (sym e) (latitude_within (high_by z (lt_z z (pos 4611686018427387904))))

up_is : (z : ℤ) → mag z < 4294967296 → up z ≡ z +ℤ pos 1
up_is (pos n) h = ap (λ (t : Bool). cond t (pos n +ℤ pos 1) (pos n)) (lt-ltb n 4611686018427387904 (omega arith))
up_is (negsuc n) h = refl

down_is : (z : ℤ) → mag z < 4294967296 → down z ≡ z -ℤ pos 1
down_is (pos n) h = refl
down_is (negsuc n) h = ap (λ (t : Bool). cond t (negsuc n -ℤ pos 1) (negsuc n)) (lt-ltb n 4611686018427387903 (omega arith))

near_latitudes : (y f : Option ℤ) → OnGlobe f → Latitudes y f → OneOf y (moved down f) f (moved up f)
near_latitudes y f g no_latitude = inr (inl refl)
near_latitudes y f g (latitude_within {a = a} {b = b} (inl e)) = inr (inl (ap Some e))
near_latitudes y f g (latitude_within {a = a} {b = b} (inr (inl e))) = inr (inr (ap Some (e ∙ sym (up_is b g))))
near_latitudes y f g (latitude_within {a = a} {b = b} (inr (inr e))) = inl (ap Some (e ∙ sym (down_is b g)))

-- ---- longitudes

east_by : (b : ℕ) → b < 4294967296 → (t : Bool) → ltb b 4294967295 ≡ t → cond t (up (pos b)) (pos 0) ≡ pos ((b + 1) % 4294967296)
east_by b h true e = let l = ltb-true b 4294967295 e in up_is (pos b) h ∙ ap pos (let q : b + 1 ≡ (b + 1) % 4294967296 = omega arith in q)
east_by b h false e = let l = ltb-false b 4294967295 e in ap pos (let q : 0 ≡ (b + 1) % 4294967296 = omega arith in q)

east_is : (b : ℕ) → b < 4294967296 → east (pos b) ≡ pos ((b + 1) % 4294967296)
east_is b h = east_by b h (ltb b 4294967295) refl

west_by : (b : ℕ) → b < 4294967296 → (t : Bool) → ltb 0 b ≡ t → cond t (down (pos b)) (pos 4294967295) ≡ pos ((b + 4294967295) % 4294967296)
west_by b h true e =
    let l = ltb-true 0 b e in
    ap (λ (t : Bool). cond t (negsuc (1 - suc b)) (pos (b - 1))) (le-ltb b 1 (omega arith)) ∙ ap pos (let q : b - 1 ≡ (b + 4294967295) % 4294967296 = omega arith in q)
west_by b h false e = let l = ltb-false 0 b e in ap pos (let q : 4294967295 ≡ (b + 4294967295) % 4294967296 = omega arith in q)

west_is : (b : ℕ) → b < 4294967296 → west (pos b) ≡ pos ((b + 4294967295) % 4294967296)
west_is b h = west_by b h (ltb 0 b) refl

at_longitude : (x f : Option ℤ) → x ≡ f → Longitudes f f → Longitudes x f
at_longitude x f e p = subst (λ (z : Option ℤ). Longitudes z f) (sym e) p

longitudes_near : (x f : Option ℤ) → OnCircle f → OneOf x (moved west f) f (moved east f) → Longitudes x f
longitudes_near x None h (inl e) = at_longitude x None e no_longitude
longitudes_near x None h (inr (inl e)) = at_longitude x None e no_longitude
longitudes_near x None h (inr (inr e)) = at_longitude x None e no_longitude
longitudes_near x (Some (pos b)) h (inl e) =
    subst (λ (z : Option ℤ). Longitudes z (Some (pos b))) (sym (e ∙ ap Some (west_is b h)))
    (longitude_within (omega arith, inr (inr (let q : ((b + 4294967295) % 4294967296 + 1) % 4294967296 ≡ b = omega arith in q))))
longitudes_near x (Some (pos b)) h (inr (inl e)) = at_longitude x (Some (pos b)) e (longitude_within (h, inl refl))
longitudes_near x (Some (pos b)) h (inr (inr e)) =
    subst (λ (z : Option ℤ). Longitudes z (Some (pos b))) (sym (e ∙ ap Some (east_is b h))) (longitude_within (omega arith, inr (inl refl)))
longitudes_near x (Some (negsuc a)) h e = absurd h

near_longitudes : (x f : Option ℤ) → OnCircle f → Longitudes x f → OneOf x (moved west f) f (moved east f)
near_longitudes x f h no_longitude = inr (inl refl)
near_longitudes x f h (longitude_within {a = a} {b = b} (l, inl e)) = inr (inl (ap (λ (n : ℕ). Some (pos n)) e))
near_longitudes x f h (longitude_within {a = a} {b = b} (l, inr (inl e))) = inr (inr (ap Some (ap pos e ∙ sym (east_is b h))))
near_longitudes x f h (longitude_within {a = a} {b = b} (l, inr (inr e))) =
    inl (ap Some (ap pos (let q : a ≡ (b + 4294967295) % 4294967296 = omega arith in q) ∙ sym (west_is b h)))

-- ---- what is beside a figure of ours has at most 20 digits

apart_sized : (a b : ℤ) → mag b < 4294967296 → UnitApart a b → nat_abs a < 10 ^ 20
apart_sized a b h (inl e) = rw e (size b h)
  where
    size : (z : ℤ) → mag z < 4294967296 → nat_abs z < 10 ^ 20
    size (pos n) l = omega arith
    size (negsuc n) l = omega arith
apart_sized a (pos n) h (inr (inl e)) = rw e (omega arith)
apart_sized a (negsuc n) h (inr (inl e)) = rw e (by_test (λ (z : ℤ). nat_abs z < 10 ^ 20) (ltb 1 (suc n)) _ _ (λ _. omega arith) (λ _. omega arith))
apart_sized a (pos n) h (inr (inr e)) = rw e (by_test (λ (z : ℤ). nat_abs z < 10 ^ 20) (ltb n 1) _ _ (λ _. omega arith) (λ _. omega arith))
apart_sized a (negsuc n) h (inr (inr e)) = rw e (omega arith)

near_latitude : (y f : Option ℤ) → OnGlobe f → Latitudes y f → Sized y
near_latitude y f g no_latitude = tt
near_latitude y f g (latitude_within {a = a} {b = b} u) = apart_sized a b g u

near_longitude : (x f : Option ℤ) → Longitudes x f → Sized x
near_longitude x f no_longitude = tt
near_longitude x f (longitude_within {a = a} {b = b} u) = omega (arith, u.0)

-- ---- the line

module _ (line : List ℕ) (r : Row) where
  abbrev Shown : Option ℤ → Option ℤ → Type 0
  Shown y x = line ≡ row_text (placed r y x)

  shown : (y x : Option ℤ) → shows line r y x ≡ true → Shown y x
  unfolding shows
  shown y x e = same_equal line (row_text (placed r y x)) e

  showing : (y x : Option ℤ) → Shown y x → shows line r y x ≡ true
  unfolding shows
  showing y x e = ap (λ (l : List ℕ). same l (row_text (placed r y x))) e ∙ same_self (row_text (placed r y x))

  abbrev At : Option ℤ → Type 0
  At y = (x : Option ℤ) × (OneOf x (moved west r.longitude) r.longitude (moved east r.longitude) × Shown y x)

  at_three : (y w m e : Option ℤ) → (shows line r y w ≡ true) ⊎ ((shows line r y m ≡ true) ⊎ (shows line r y e ≡ true)) → (x : Option ℤ) × (OneOf x w m e × Shown y x)
  at_three y w m e (inl p) = (w, (inl refl, shown y w p))
  at_three y w m e (inr (inl p)) = (m, (inr (inl refl), shown y m p))
  at_three y w m e (inr (inr p)) = (e, (inr (inr refl), shown y e p))

  along_at : (y : Option ℤ) → along line r y ≡ true → At y
  unfolding along
  along_at y p = at_three y (moved west r.longitude) r.longitude (moved east r.longitude) (three (shows line r y (moved west r.longitude)) (shows line r y r.longitude) (shows line r y (moved east r.longitude)) p)

  three_at : (y x w m e : Option ℤ) → OneOf x w m e → Shown y x → (shows line r y w ≡ true) ⊎ ((shows line r y m ≡ true) ⊎ (shows line r y e ≡ true))
  three_at y x w m e (inl p) s = inl (showing y w (s ∙ ap (λ (f : Option ℤ). row_text (placed r y f)) p))
  three_at y x w m e (inr (inl p)) s = inr (inl (showing y m (s ∙ ap (λ (f : Option ℤ). row_text (placed r y f)) p)))
  three_at y x w m e (inr (inr p)) s = inr (inr (showing y e (s ∙ ap (λ (f : Option ℤ). row_text (placed r y f)) p)))

  at_along : (y : Option ℤ) → At y → along line r y ≡ true
  unfolding along
  at_along y a =
      three_back (shows line r y (moved west r.longitude)) (shows line r y r.longitude) (shows line r y (moved east r.longitude))
      (three_at y a.0 (moved west r.longitude) r.longitude (moved east r.longitude) a.1.0 a.1.1)

  abbrev Somewhere : Type 0
  Somewhere = (y : Option ℤ) × (OneOf y (moved down r.latitude) r.latitude (moved up r.latitude) × At y)

  agrees_three : (d m u : Option ℤ) → (along line r d ≡ true) ⊎ ((along line r m ≡ true) ⊎ (along line r u ≡ true)) → (y : Option ℤ) × (OneOf y d m u × At y)
  agrees_three d m u (inl p) = (d, (inl refl, along_at d p))
  agrees_three d m u (inr (inl p)) = (m, (inr (inl refl), along_at m p))
  agrees_three d m u (inr (inr p)) = (u, (inr (inr refl), along_at u p))

  somewhere : agrees_of line r ≡ true → Somewhere
  unfolding agrees_of
  somewhere p = agrees_three (moved down r.latitude) r.latitude (moved up r.latitude) (three (along line r (moved down r.latitude)) (along line r r.latitude) (along line r (moved up r.latitude)) p)

  three_agrees : (y d m u : Option ℤ) → OneOf y d m u → At y → (along line r d ≡ true) ⊎ ((along line r m ≡ true) ⊎ (along line r u ≡ true))
  three_agrees y d m u (inl p) a = inl (ap (along line r) (sym p) ∙ at_along y a)
  three_agrees y d m u (inr (inl p)) a = inr (inl (ap (along line r) (sym p) ∙ at_along y a))
  three_agrees y d m u (inr (inr p)) a = inr (inr (ap (along line r) (sym p) ∙ at_along y a))

  somewhere_back : Somewhere → agrees_of line r ≡ true
  unfolding agrees_of
  somewhere_back s =
      three_back (along line r (moved down r.latitude)) (along line r r.latitude) (along line r (moved up r.latitude))
      (three_agrees s.0 (moved down r.latitude) r.latitude (moved up r.latitude) s.1.0 s.1.1)

  means : Placed r → agrees_of line r ≡ true → Agrees line r
  means h p =
      let s = somewhere p in
      let a = s.1.1 in
      record {
        latitude = s.0;
        longitude = a.0;
        north = latitudes_near s.0 r.latitude s.1.0;
        east = longitudes_near a.0 r.longitude h.longitude a.1.0;
        text = a.1.1;
      }

  meant : Placed r → Agrees line r → agrees_of line r ≡ true
  meant h a =
      somewhere_back (a.latitude, (near_latitudes a.latitude r.latitude h.latitude a.north, (a.longitude, (near_longitudes a.longitude r.longitude h.longitude a.east, a.text))))

  -- what agrees is within one unit, and what is within one unit agrees
  pub agrees_means : Placed r → agrees_of line r ≡ true ↔ Agrees line r
  agrees_means h = (means h, meant h)

  -- the row's own text agrees, whatever the row
  pub shown_agrees : shows line r r.latitude r.longitude ≡ true → agrees_of line r ≡ true
  shown_agrees p = somewhere_back (r.latitude, (inr (inl refl), (r.longitude, (inr (inl refl), shown r.latitude r.longitude p))))

pub own_agrees : (r : Row) → agrees_of (row_text r) r ≡ true
own_agrees r = shown_agrees (row_text r) r (showing (row_text r) r r.latitude r.longitude refl)

-- ---- and of a line with these figures: it agrees exactly if they are within one unit, since it names no others

module _ (r : Row) (h : Placed r) (y x : Option ℤ) (sized : Sized y × Sized x) where
  named : Agrees (row_text (placed r y x)) r → Latitudes y r.latitude × Longitudes x r.longitude
  named a =
      let near : Sized a.latitude × Sized a.longitude = (near_latitude a.latitude r.latitude h.latitude a.north, near_longitude a.longitude r.longitude a.east) in
      let e = figures_one (placed r y x) (placed r a.latitude a.longitude) refl sized.0 near.0 sized.1 near.1 a.text in
      (subst (λ (f : Option ℤ). Latitudes f r.latitude) (sym e.0) a.north, subst (λ (f : Option ℤ). Longitudes f r.longitude) (sym e.1) a.east)

  pub figures_decide : agrees_of (row_text (placed r y x)) r ≡ true ↔ Latitudes y r.latitude × Longitudes x r.longitude
  figures_decide =
      (λ p. named ((agrees_means (row_text (placed r y x)) r h).0 p), λ q. (agrees_means (row_text (placed r y x)) r h).1 (record { latitude = y; longitude = x; north = q.0; east = q.1; text = refl }))
