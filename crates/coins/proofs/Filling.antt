-- A part put behind bytes.
use Rattle.std.proofs.Common.{◌≡◌, ℕ, ◌+◌, ◌-◌, ◌≤◌, List, ◌++◌, length, take, refl, rules, arith}
use borrow.Rule.Slice.PartMut.{put_mid}
use Rattle.std.proofs.lemmas.List.{drop-replicate, length-append}
use Rattle.std.proofs.lemmas.Slice.{take-put_mid, overwrites}
use Rattle.coins.specs.Filled.{Filled}

-- the bytes that there are then
pub front_pushed : (len : ℕ) (place part ys : List ℕ) → ys ≡ part → len ≤ length place → take (len + length part) (put_mid len (len + length part - len) place ys) ≡ take len place ++ part
front_pushed len place part ys e h = rw e (take-put_mid len (len + length part - len) place part (len + length part) refl h)

pub filled_pushed : (most len : ℕ) (place part ys : List ℕ) → Filled most len place → length place ≡ most → ys ≡ part → len + length part ≤ most → Filled most (len + length part) (put_mid len (len + length part - len) place ys)
filled_pushed most len place part ys f l e h =
    let front = front_pushed len place part ys e (omega (arith, f.within)) in
    record { within = h; count = rw front (simp length-append (omega (arith, f.count))); zeros = rw e (search (rules, overwrites, drop-replicate, f.zeros)) }
