-- A message behind its size.
use Rattle.std.proofs.Common.{◌≡◌, ℕ, ◌+◌, ◌-◌, ◌≤◌, List, [], ◌++◌, length, take, drop, Ok, Err, Result, MatchResult, IsOk, refl, ap, ◌∙◌, inl, inr, arith}
use borrow.Rule.Slice.PartMut.{put_mid, post_of}
use Rattle.std.proofs.lemmas.List.{length-take-le, length-drop, take_rest, drop_all, drop_at, drop-drop, append-nil}
use Rattle.refusals.specs.declared.Refusal.{Refusal}
use Rattle.packets.specs.Osc.{word, Content, Encoding}
use Rattle.packets.specs.Encode.{encode}
use Rattle.packets.specs.Write.{Entry, content_of, Placed, Refused}
use Rattle.play.specs.Replies.{framed}

-- what is not refused is done
pub done_unless : {A : Type 0} (r : Result A Refusal) (P : A → Type 0) (Q : Refusal → Type 0) → MatchResult r P Q → ((e : Refusal) → Q e → ⊥) → IsOk r
done_unless (Ok n) P Q h none = refl
done_unless (Err e) P Q h none = absurd (none e h)

-- a message that can be written, with room for it, is not refused
pub never_refused : (address lent : List ℕ) (es : List Entry) (before after : List ℕ) (e : Refusal) → Refused address lent es before after e → Placed lent es
    → Encoding (content_of address lent es) (encode (content_of address lent es)) → length (encode (content_of address lent es)) ≤ length before → ⊥
never_refused address lent es before after e h placed encodes room =
    elim h.cause [ inl b ↦ b.1 placed (encode (content_of address lent es)) encodes | inr s ↦ omega (arith, s.1.bound) ]

pub framed_is : (m : Content) (xs ws ys : List ℕ) (n : ℕ) → 4 + n ≤ length xs → ws ≡ word n → n ≡ length (encode m) → ys ≡ encode m ++ drop n (take (length xs - 4) (drop 4 xs))
    → ws ++ post_of 0 4 (put_mid 4 (length xs - 4) xs ys) ≡ framed m ++ drop (n + 4) xs
unfolding framed
framed_is m xs ws ys n room w e y =
    let gone : drop (length xs - 4) (drop 4 xs) ≡ [] = drop_all (length xs - 4) (drop 4 xs) (omega (arith, length-drop 4 xs)) in
    let back : post_of 0 4 (put_mid 4 (length xs - 4) xs ys) ≡ ys =
    drop_at (take 4 xs) (ys ++ drop (length xs - 4) (drop 4 xs)) 4 (length-take-le 4 xs (omega arith)) ∙ ap (λ x. ys ++ x) gone ∙ append-nil ys in
    let rest : drop n (take (length xs - 4) (drop 4 xs)) ≡ drop (n + 4) xs = ap (drop n) (take_rest xs 4) ∙ drop-drop n 4 xs ∙ ap (λ k. drop k xs) (omega arith) in
    (λ i. w i ++ back i) ∙ (λ i. word (e i) ++ y i) ∙ ap (λ x. word (length (encode m)) ++ (encode m ++ x)) rest

pub framed-length : (m : Content) → length (framed m) ≡ 4 + length (encode m)
unfolding framed
framed-length m = omega arith
