-- What follows of reader and writer together.
use Rattle.std.proofs.Common.{◌≡◌, ℕ, ◌+◌, ◌^◌, ◌<◌, true, List, [], ◌∷◌, ◌++◌, length, get_or, take, drop, Some, None, Option, sym, refl, ap, ◌∙◌, arith}
use Rattle.std.proofs.lemmas.List.{take-append-drop, drop_more}
use Rattle.std.proofs.lemmas.List.Elements.{All-append, All-take, All-nil, All-cons}
use Rattle.coins.specs.declared.mail.Kind.TheVariants.{Work, More, Back, NoMore, Ask}
use Rattle.coins.specs.declared.parcel.Parcel.{Parcel}
use Rattle.wire.specs.declared.message.Body.{Body}
use Rattle.wire.specs.declared.message.Body.TheVariants.{Numbered, Taken}
use Rattle.wire.specs.Numbers.{number_bytes}
use Rattle.wire.specs.Messages.{Msg, body_number, numbered_msg, taken_msg}
use Rattle.wire.specs.Rules.{Sound, AllBytes, goes}
use Rattle.wire.specs.Bytes.{rest, encode, decode}
use Rattle.wire.specs.Frames.{framed, frame_bytes}
use Rattle.wire.specs.Theorems.{FirstPartsRefused}
use Rattle.wire.proofs.Numbers.{all_number_bytes}
use Rattle.wire.proofs.Writing.{written_is_read, nothing_behind}
use Rattle.wire.proofs.Reading.{read_is_written}

-- a byte, and bytes, in front of bytes
after : (b : ℕ) (bs : List ℕ) → b < 256 → AllBytes bs → AllBytes (b ∷ bs)
after b bs l h = All-cons (λ x. x < 256) b bs l h

in_front : (w n : ℕ) (ys : List ℕ) → AllBytes ys → AllBytes (number_bytes w n ++ ys)
in_front w n ys h = All-append (λ b. b < 256) (number_bytes w n) ys (all_number_bytes w n) h

all_tail : (b : Body) (w : List ℕ) → AllBytes w → AllBytes (body_number b ∷ rest b w)
all_tail (Numbered (Work c)) w h = after _ _ (omega arith) (in_front 8 c (number_bytes 2 (length w) ++ w) (in_front 2 (length w) w h))
all_tail (Numbered (More c)) w h = after _ _ (omega arith) (all_number_bytes 8 c)
all_tail (Numbered (Back c)) w h = after _ _ (omega arith) (all_number_bytes 8 c)
all_tail (Numbered NoMore) w h = after _ _ (omega arith) (all_number_bytes 8 0)
all_tail (Numbered Ask) w h = after 4 [] (omega arith) (All-nil (λ b. b < 256))
all_tail Taken w h = after 5 [] (omega arith) (All-nil (λ b. b < 256))

-- what is written are bytes
pub all_encode : (m : Msg) → AllBytes m.work → AllBytes (encode m)
unfolding encode
all_encode m h = in_front 4 m.letter _ (in_front 2 m.sender _ (in_front 2 m.receiver _ (in_front 8 m.number _ (all_tail m.body m.work h))))

none_if : (o : Option Msg) → ((m : Msg) → o ≡ Some m → ⊥) → o ≡ None
none_if None h = refl
none_if (Some m) h = absurd (h m refl)

both : (o : Option Msg) (m : Msg) → o ≡ None → o ≡ Some m → ⊥
both o m p q = let z : ◌≡◌ {A = ℕ} 0 1 = cc in omega arith

-- a first part that is a message has the rest of the message behind it
pub first_parts_refused : FirstPartsRefused
first_parts_refused m k o l =
    none_if (decode (take k (encode m))) (λ n e.
    let front = read_is_written (take k (encode m)) n (All-take (λ b. b < 256) k (encode m) (all_encode m o.bytes)) e in
    let whole : encode n ++ (get_or (encode m) k 0 ∷ drop (k + 1) (encode m)) ≡ encode m =
    ap (λ (x : List ℕ). x ++ (get_or (encode m) k 0 ∷ drop (k + 1) (encode m))) (sym front.0) ∙ ap (λ (x : List ℕ). take k (encode m) ++ x) (sym (drop_more (encode m) k 0 l)) ∙ take-append-drop k (encode m) in
    both (decode (encode m)) m (ap decode (sym whole) ∙ nothing_behind n (get_or (encode m) k 0) (drop (k + 1) (encode m)) front.1) (written_is_read m o))

-- what is in the frame of a message is read as the message
pub numbered_read : (p : Parcel) (n : ℕ) → Sound (numbered_msg p n) → decode (frame_bytes (framed (encode (numbered_msg p n)))) ≡ Some (numbered_msg p n)
numbered_read p n o = written_is_read (numbered_msg p n) o

pub taken_read : (s r n : ℕ) → Sound (taken_msg s r n) → decode (frame_bytes (framed (encode (taken_msg s r n)))) ≡ Some (taken_msg s r n)
taken_read s r n o = written_is_read (taken_msg s r n) o

-- an acknowledgement between two nodes can be
pub taken_sound : (s r n : ℕ) → goes s r Taken ≡ true → n < 2 ^ 64 → Sound (taken_msg s r n)
taken_sound s r n g h = record { letter_fits = omega arith; number_fits = h; coins_fit = omega arith; goes_so = g; paid = refl; short = omega arith; bytes = All-nil (λ b. b < 256); bare = λ _. refl }
