-- The texts that are written for what happens, one by one, and when two of them say the same but for the bytes of a file.
use Rattle.std.specs.Prelude.{◌≡◌, ℕ, ◌⊎◌, List, [], ◌∷◌}
use Rattle.blob.specs.Sums.{sum_of}
use Rattle.cta_site.specs.declared.site.Site.{Site}
use Rattle.wire_http.specs.Reply.{FileBody, ReplyView, view_text}
use Rattle.replay.specs.Output.{frame, run_behind, written_for}
use Rattle.replay.specs.Run.{Happening, ScriptTurn, all_happenings}
use Rattle.replay.specs.Steps.{Made, RunState, begun_with}

-- what is written for each thing that happens, in order: the line of a step, or the frame of a reply
abbrev pub texts_on : RunState → List Happening → List (List ℕ)
texts_on s [] = []
texts_on s (h ∷ hs) = written_for s h ∷ texts_on (run_behind s h) hs

-- the texts of a run from its start, over drives and media that a bench has made so
abbrev pub texts_of : Site → Made → List ScriptTurn → List (List ℕ)
texts_of site made turns = texts_on (begun_with site made) (all_happenings turns)

-- the frame of a reply with the bytes of a file
abbrev pub file_frame : ℕ → ReplyView → List ℕ → List ℕ
file_frame link view bytes = frame (record { link = link; text = view_text (record view { body = FileBody bytes }) })

-- two texts are the frames of one reply on one link with the bytes of a file, where these bytes have the same length and SHA-256
pub record AreFileReplies (a b : List ℕ) : Type 0 where
  pub link : ℕ
  pub view : ReplyView
  pub bytes : List ℕ
  pub others : List ℕ
  pub first : a ≡ file_frame link view bytes
  pub second : b ≡ file_frame link view others
  pub same : sum_of bytes ≡ sum_of others

-- two texts are alike: they are the same, or the same reply with the bytes of a file
abbrev pub AreAlikeTexts : List ℕ → List ℕ → Type 0
AreAlikeTexts a b = (a ≡ b) ⊎ AreFileReplies a b

-- as many texts as others, and each is like the other in its place
abbrev pub EachAlike : List (List ℕ) → List (List ℕ) → Type 0
EachAlike [] [] = Unit {0}
EachAlike [] (b ∷ bs) = ⊥
EachAlike (a ∷ rest) [] = ⊥
EachAlike (a ∷ rest) (b ∷ others) = AreAlikeTexts a b × EachAlike rest others
