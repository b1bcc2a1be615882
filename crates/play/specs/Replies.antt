-- What goes back for a packet.
use Rattle.std.specs.Prelude.{◌≡◌, ℕ, ◌<◌, List, [], ◌∷◌, ◌++◌, length, drop, pos, Ok, Err, codes, Result}
use Rattle.refusals.specs.declared.Refusal.{Refusal}
use Rattle.refusals.specs.declared.Refusal.TheVariants.{BufferTooShort}
use Rattle.refusals.specs.Refusals.{number_of}
use Rattle.packets.specs.Osc.{word, Content, number, Means}
use Rattle.packets.specs.Encode.{encode}
use Rattle.play.specs.declared.reply.Told.{Told}
use Rattle.play.specs.declared.reply.Told.TheVariants.{Done, Word, Lamp}

-- what a call comes to: what is told of it, or its refusal
abbrev pub Reply : Type 0
Reply = Result Told Refusal

-- the message of a reply
abbrev pub content_in : Reply → Content
content_in (Ok Done) = record { address = codes "/hall/ok"; arguments = [] }
content_in (Ok (Word station code)) = record { address = codes "/hall/word"; arguments = number (pos station) ∷ number (pos code) ∷ [] }
content_in (Ok (Lamp station lit)) = record { address = codes "/hall/lamp"; arguments = number (pos station) ∷ number (pos lit) ∷ [] }
content_in (Err e) = record { address = codes "/hall/no"; arguments = number (pos (number_of e)) ∷ [] }

-- an int32 size, the highest byte first, and the message of that size
unfoldable pub framed : Content → List ℕ
framed m = word (length (encode m)) ++ encode m

-- the message m was written behind its size to the front of a buffer, n bytes in all; behind them the buffer is as it was, and the bytes mean m and no other message
pub record Framed (m : Content) (before after : List ℕ) (n : ℕ) : Type 0 where
  pub len : n ≡ length (framed m)
  pub bytes : after ≡ framed m ++ drop n before
  pub means : Means m (encode m)

-- the buffer has no room for every reply, and is as it was
pub record NoRoom (before after : List ℕ) (e : Refusal) : Type 0 where
  pub is : e ≡ BufferTooShort
  pub short : length before < 28
  pub same : after ≡ before
