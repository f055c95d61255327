-- What is sent again, one message and one peer after another.
use Rattle.std.proofs.Common.{◌≡◌, ℕ, suc, ◌+◌, ◌<◌, List, [], ◌∷◌, ◌++◌, length, get_or, take, sym, ap, ◌∙◌, append_assoc, append-nil, arith}
use Rattle.std.proofs.lemmas.List.{take_more, map_push, length-take-le, length-map}
use Rattle.coins.specs.declared.ids.NodeId.{NodeId}
use Rattle.coins.specs.declared.parcel.Parcel.{Parcel}
use Rattle.lines.specs.declared.packet.Packet.{Packet}
use Rattle.lines.specs.declared.end.LineEnd.{LineEnd}
use Rattle.lines.specs.Ends.{End}
use Rattle.lines.specs.Viewed.{end_of, ends_in}
use Rattle.wire.specs.Messages.{numbered_msg}
use Rattle.wire.specs.Bytes.{encode}
use Rattle.wire.specs.Frames.{Frame, framed}
use Rattle.lines.specs.Packets.{packet_of, resent, resent_all, peer_at}

-- messages behind others: m is the number of the last before
resent_behind : (s r : NodeId) (n m : ℕ) (ps qs : List Parcel) → m ≡ n + length ps → resent s r n (ps ++ qs) ≡ resent s r n ps ++ resent s r m qs
unfolding resent
resent_behind s r n m [] qs e = let q : n ≡ m = omega arith in ap (λ k. resent s r k qs) q
resent_behind s r n m (p ∷ ps) qs e = ap (λ (ks : List Packet). packet_of s r (suc n) p ∷ ks) (resent_behind s r (suc n) m ps qs (omega arith))

-- one message more
pub resent_more : (s r : NodeId) (n m : ℕ) (ps : List Parcel) (k : ℕ) (d : Parcel) → k < length ps → m ≡ suc (n + k) →
    resent s r n (take (k + 1) ps) ≡ resent s r n (take k ps) ++ packet_of s r m (get_or ps k d) ∷ []
unfolding resent
resent_more s r n m ps k d h e =
    ap (resent s r n) (take_more ps k d h)
    ∙ resent_behind s r n (n + k) (take k ps) (get_or ps k d ∷ []) (ap (λ j. n + j) (sym (length-take-le k ps (omega arith))))
    ∙ ap (λ j. resent s r n (take k ps) ++ packet_of s r j (get_or ps k d) ∷ []) (sym e)

peers_behind : (s : NodeId) (n m : ℕ) (es fs : List End) → m ≡ n + length es → resent_all s n (es ++ fs) ≡ resent_all s n es ++ resent_all s m fs
unfolding resent_all
peers_behind s n m [] fs e = let q : n ≡ m = omega arith in ap (λ k. resent_all s k fs) q
peers_behind s n m (x ∷ es) fs e =
    ap (λ (qs : List Packet). resent s (peer_at n) x.answered x.waiting ++ qs) (peers_behind s (suc n) m es fs (omega arith))
    ∙ sym (append_assoc (resent s (peer_at n) x.answered x.waiting) (resent_all s (suc n) es) (resent_all s m fs))

-- one peer more
pub peers_more : (s : NodeId) (es : List LineEnd) (k : ℕ) (d : LineEnd) → k < length es →
    resent_all s 0 (ends_in (take (k + 1) es)) ≡ resent_all s 0 (ends_in (take k es)) ++ resent s (peer_at k) (end_of (get_or es k d)).answered (end_of (get_or es k d)).waiting
unfolding resent_all ends_in
peers_more s es k d h =
    ap (λ (xs : List LineEnd). resent_all s 0 (ends_in xs)) (take_more es k d h)
    ∙ ap (resent_all s 0) (map_push end_of (take k es) (get_or es k d))
    ∙ peers_behind s 0 k (ends_in (take k es)) (end_of (get_or es k d) ∷ []) (let l : length (ends_in (take k es)) ≡ k = length-map (take k es) end_of ∙ length-take-le k es (omega arith) in omega arith)
    ∙ ap (λ (qs : List Packet). resent_all s 0 (ends_in (take k es)) ++ qs) (append-nil (resent s (peer_at k) (end_of (get_or es k d)).answered (end_of (get_or es k d)).waiting))

-- one packet more has gone out
pub frames_more : (was before after : List Packet) (s r : NodeId) (n m : ℕ) (ps : List Parcel) (k : ℕ) (x : Parcel) (f : Frame) → before ≡ was ++ resent s r n (take k ps) → k < length ps → m ≡ suc (n + k) → x ≡ get_or ps k x →
    f ≡ framed (encode (numbered_msg x m)) → after ≡ before ++ record { sender = s; receiver = r; frame = f } ∷ [] → after ≡ was ++ resent s r n (take (k + 1) ps)
frames_more was before after s r n m ps k x f i h e y w p =
    let more = resent_more s r n m ps k x h e in grind (arith, append_assoc)

-- what waits for one peer more, x, has gone out
pub ends_more : (was before after : List Packet) (s r : NodeId) (es : List LineEnd) (k : ℕ) (x : LineEnd) → before ≡ was ++ resent_all s 0 (ends_in (take k es)) → k < length es → x ≡ get_or es k x → r ≡ peer_at k →
    after ≡ before ++ resent s r (end_of x).answered (end_of x).waiting → after ≡ was ++ resent_all s 0 (ends_in (take (k + 1) es))
ends_more was before after s r es k x i h y e p =
    let more = peers_more s es k x h in grind (arith, append_assoc)
