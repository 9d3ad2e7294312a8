-- Both ways between a device and its image, and that no call accepts bytes that are no image.
use mathlib.Core.Path.{◌≡◌, refl, sym, ap, ◌∙◌}
use mathlib.Core.Logic.{◌≢◌}
use mathlib.Core.Bool.{Bool, true, false, not, ◌&&◌, ◌||◌, cond, false≢true}
use mathlib.Core.List.{List}
use Prim.Native.Nat.{ℕ, ◌≤◌}
use native.Mathlib.Omega.{arith}
use lib.Dec.{leb, eqb}
use borrow.Author.Tests.{leb-true, le-ltb, eqb-true, eqb-false}
use Rattle.answer.proofs.Parts.{and_left, and_right}
use Rattle.reception.specs.declared.Reception.{Reception}
use Rattle.reception.specs.declared.Reception.TheVariants.{Idle, InData, After13h, FirstCheck, SecondCheck}
use Rattle.reception.specs.Cases.{code_of, first_of, reception_of}
use Rattle.reception.proofs.Promises.{reception_back}
use Rattle.state.specs.declared.Device.{Device}
use Rattle.state.specs.State.{is_idle}
use Rattle.state.specs.Sound.{both_sized, is_sized, line_sound, sound, refusal_of}
use Rattle.state.proofs.Accepting.{accepted}
use Rattle.image.specs.declared.Image.{Image}
use Rattle.image.specs.Image.{flag_of, image_of, is_image, count_in, device_of}
use Rattle.image.specs.ImagePromise.{state_in}

-- ---- from the device and back

flag_back : (b : Bool) → not (eqb (flag_of b) 0) ≡ b
flag_back true = refl
flag_back false = refl

code_good : (r : Reception) → leb (code_of r) 4 ≡ true
code_good Idle = refl
code_good InData = refl
code_good After13h = refl
code_good FirstCheck = refl
code_good (SecondCheck a) = refl

first_good : (r : Reception) → (eqb (code_of r) 4 || eqb (first_of r) 0) ≡ true
first_good Idle = refl
first_good InData = refl
first_good After13h = refl
first_good FirstCheck = refl
first_good (SecondCheck a) = refl

flag_good : (b : Bool) → leb (flag_of b) 1 ≡ true
flag_good true = refl
flag_good false = refl

both : (a b : Bool) → a ≡ true → b ≡ true → (a && b) ≡ true
both a b e f = ap (λ (t : Bool). t && b) e ∙ f

-- what a device gives is an image
pub image_good : (d : Device) → is_image (image_of d) ≡ true
unfolding is_image image_of
image_good d =
    let l = d.tables.load in
    both _ _ (code_good d.reception)
    (both _ _ (first_good d.reception)
    (both _ _ (flag_good d.spoiled) (both _ _ (flag_good l.opened) (both _ _ (flag_good l.kept.over) (flag_good l.any)))))

-- THE DEVICE of a device's image is that device
pub image_back : (d : Device) → device_of (image_of d) ≡ d
unfolding image_of device_of
image_back d =
    let l = d.tables.load in
    let r = reception_back d.reception in
    let s = flag_back d.spoiled in
    let n = ap (λ (t : Bool). count_in t d.count) (image_good d) in
    let o = flag_back l.opened in
    let v = flag_back l.kept.over in
    let a = flag_back l.any in
    λ i. record {
      reception = r i;
      spoiled = s i;
      count = n i;
      store = d.store;
      held = d.held;
      tables = record {
        versions = d.tables.versions;
        live = d.tables.live;
        load = record {
          opened = o i;
          network = l.network;
          version = l.version;
          kept = record { used = l.kept.used; records = l.kept.records; over = v i };
          any = a i;
        };
      };
    }

-- ---- from the image and back

-- a flag that is 0 or 1
flag_same : (n : ℕ) → leb n 1 ≡ true → flag_of (not (eqb n 0)) ≡ n
flag_same n e = cases (eqb n 0) refl
  where
    cases : (t : Bool) → eqb n 0 ≡ t → flag_of (not t) ≡ n
    cases true f = sym (eqb-true n 0 f)
    cases false f = let h = leb-true n 1 e in let g = eqb-false n 0 f in omega arith

-- a number that stands for a state, and its first check byte
abbrev Same : ℕ → ℕ → Reception → Type 0
Same code first r = (code_of r ≡ code) × (first_of r ≡ first)

either : (a b : Bool) → (a || b) ≡ true → a ≡ false → b ≡ true
either true b e f = absurd (false≢true (sym f))
either false b e f = e

reception_same : (code first : ℕ) → leb code 4 ≡ true → (eqb code 4 || eqb first 0) ≡ true → Same code first (reception_of code first)
unfolding reception_of
reception_same code first e f = cases (eqb code 0) refl (eqb code 1) refl (eqb code 2) refl (eqb code 3) refl
  where
    none : (k : ℕ) → code ≡ k → eqb k 4 ≡ false → 0 ≡ first
    none k c h = sym (eqb-true first 0 (either (eqb code 4) (eqb first 0) f (ap (λ (n : ℕ). eqb n 4) c ∙ h)))

    cases : (t0 : Bool) → eqb code 0 ≡ t0 → (t1 : Bool) → eqb code 1 ≡ t1 → (t2 : Bool) → eqb code 2 ≡ t2 → (t3 : Bool) → eqb code 3 ≡ t3
        → Same code first (cond t0 Idle (cond t1 InData (cond t2 After13h (cond t3 FirstCheck (SecondCheck first)))))
    cases true e0 t1 e1 t2 e2 t3 e3 = (sym (eqb-true code 0 e0), none 0 (eqb-true code 0 e0) refl)
    cases false e0 true e1 t2 e2 t3 e3 = (sym (eqb-true code 1 e1), none 1 (eqb-true code 1 e1) refl)
    cases false e0 false e1 true e2 t3 e3 = (sym (eqb-true code 2 e2), none 2 (eqb-true code 2 e2) refl)
    cases false e0 false e1 false e2 true e3 = (sym (eqb-true code 3 e3), none 3 (eqb-true code 3 e3) refl)
    cases false e0 false e1 false e2 false e3 =
        (omega (arith, leb-true code 4 e, eqb-false code 0 e0, eqb-false code 1 e1, eqb-false code 2 e2, eqb-false code 3 e3), refl)

-- the tests of an image, apart
record Good (i : Image) : Type 0 where
  code_low : leb i.state 4 ≡ true
  first_held : (eqb i.state 4 || eqb i.first 0) ≡ true
  spoiled_flag : leb i.spoiled 1 ≡ true
  opened_flag : leb i.opened 1 ≡ true
  over_flag : leb i.over 1 ≡ true
  any_flag : leb i.any 1 ≡ true

good : (i : Image) → is_image i ≡ true → Good i
unfolding is_image
good i e =
    let e1 = and_right (leb i.state 4) _ e in
    let e2 = and_right (eqb i.state 4 || eqb i.first 0) _ e1 in
    let e3 = and_right (leb i.spoiled 1) _ e2 in
    let e4 = and_right (leb i.opened 1) _ e3 in
    record {
      code_low = and_left _ _ e;
      first_held = and_left _ _ e1;
      spoiled_flag = and_left _ _ e2;
      opened_flag = and_left _ _ e3;
      over_flag = and_left _ _ e4;
      any_flag = and_right (leb i.over 1) _ e4;
    }

-- THE IMAGE of a good image's device is that image
pub device_back : (i : Image) → is_image i ≡ true → image_of (device_of i) ≡ i
unfolding image_of device_of
device_back i e =
    let g = good i e in
    let r = reception_same i.state i.first g.code_low g.first_held in
    let s = flag_same i.spoiled g.spoiled_flag in
    let o = flag_same i.opened g.opened_flag in
    let v = flag_same i.over g.over_flag in
    let a = flag_same i.any g.any_flag in
    let n = ap (λ (t : Bool). count_in t i.count) e in
    λ k. record {
      state = r.0 k;
      first = r.1 k;
      spoiled = s k;
      times = i.times;
      opened = o k;
      network = i.network;
      over = v k;
      any = a k;
      count = n k;
      length = i.length;
      liveused = i.liveused;
      liverecords = i.liverecords;
      loadused = i.loadused;
      loadrecords = i.loadrecords;
      payload = i.payload;
      version = i.version;
      versions = i.versions;
      store = i.store;
    }

-- ---- bytes that are no image

line_bad : (t spoiled : Bool) → cond t (eqb 4096 0 && not spoiled) (leb 4096 2048) ≡ false
line_bad true spoiled = refl
line_bad false spoiled = refl

not_sound : (a b : Bool) → a ≡ false → (a && b) ≡ false
not_sound a b e = ap (λ (t : Bool). t && b) e

-- the device that they are taken for breaks a rule
pub bad_refused : (i : Image) (live loading : List ℕ) → is_image i ≡ false → sound (state_in i live loading) ≡ false
unfolding sound line_sound device_of
bad_refused i live loading e =
    not_sound _ _
    (ap (λ (t : Bool). cond (is_idle (reception_of i.state i.first)) (eqb (count_in t i.count) 0 && not (not (eqb i.spoiled 0))) (leb (count_in t i.count) 2048)) e
    ∙ line_bad (is_idle (reception_of i.state i.first)) (not (eqb i.spoiled 0)))

-- A CALL on them is refused as 3 where its room and both sizes are right; else as 1 or 2, which come first
pub bad_is_three : (i : Image) (room : ℕ) (live loading : List ℕ) → is_image i ≡ false → 64 ≤ room → both_sized live loading ≡ true → refusal_of room (state_in i live loading) ≡ 3
unfolding refusal_of is_sized
bad_is_three i room live loading e k s = rw (le-ltb room 64 k, s, bad_refused i live loading e) refl

-- and is never accepted
pub bad_not_accepted : (i : Image) (room : ℕ) (live loading : List ℕ) → is_image i ≡ false → refusal_of room (state_in i live loading) ≢ 0
bad_not_accepted i room live loading e h =
    false≢true (sym (bad_refused i live loading e) ∙ (accepted room (state_in i live loading) h).is_sound)
