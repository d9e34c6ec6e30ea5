-- Stacks of frames in terms of definitions.
use Rattle.std.proofs.Common.{◌≡◌, ℕ, ◌+◌, ◌-◌, Bool, true, false, cond, List, [], ◌∷◌, ◌++◌, length, Option, Some, None, refl, ap, sym, ◌∙◌, arith}
use Rattle.std.specs.Prelude.{slice_get}
use Rattle.dp_expr.specs.declared.frame.Frame.{Frame as OpenFrame}
use Rattle.dp_expr.specs.Values.{Outcome}
use Rattle.dp_expr.specs.Walk.{Making, FrameOf, nesting, depth_with, is_due, value_under, reduction}
use Rattle.dp_expr.specs.steps.Frames.{frame_seen, frames_above, frames_seen, is_top_due}

-- the last frame is on top, whatever is below
frames_above-push : (below : List (FrameOf Outcome)) (frames : List OpenFrame) (frame : OpenFrame) → frames_above below (frames ++ (frame ∷ [])) ≡ frame_seen frame ∷ frames_above below frames
unfolding frames_above
frames_above-push below [] frame = refl
frames_above-push below (other ∷ frames) frame = frames_above-push (frame_seen other ∷ below) frames frame

-- the last frame is on top
pub frames_seen-push : (frames : List OpenFrame) (frame : OpenFrame) → frames_seen (frames ++ (frame ∷ [])) ≡ frame_seen frame ∷ frames_seen frames
unfolding frames_seen
frames_seen-push frames frame = frames_above-push [] frames frame

-- no frames
pub frames_seen-nil : frames_seen [] ≡ []
unfolding frames_seen frames_above
frames_seen-nil = refl

-- the frame on top is the last
due_last : ℕ → Option OpenFrame → Bool
due_last level None = false
due_last level (Some frame) = is_due level (frame_seen frame)

-- whether the top is due depends on the last frame
above_last : (below : List (FrameOf Outcome)) (level : ℕ) (frame : OpenFrame) (frames : List OpenFrame) → is_top_due level (frames_above below (frame ∷ frames)) ≡ due_last level (slice_get (frame ∷ frames) (length frames))
unfolding frames_above due_last
above_last below level frame [] = refl
above_last below level frame (next ∷ frames) = above_last (frame_seen frame ∷ below) level next frames

-- without a last frame none is due
pub is_top_due-none : (level : ℕ) (frames : List OpenFrame) → slice_get frames (length frames - 1) ≡ None → is_top_due level (frames_seen frames) ≡ false
unfolding frames_seen frames_above due_last
is_top_due-none level [] e = refl
is_top_due-none level (frame ∷ frames) e =
    let p : slice_get (frame ∷ frames) (length frames) ≡ None = ap (slice_get (frame ∷ frames)) (omega arith) ∙ e in
    above_last [] level frame frames ∙ ap (due_last level) p

-- the top is due if the last frame is
pub is_top_due-some : (level : ℕ) (frames : List OpenFrame) (top : OpenFrame) → slice_get frames (length frames - 1) ≡ Some top → is_top_due level (frames_seen frames) ≡ is_due level (frame_seen top)
unfolding frames_seen frames_above due_last
is_top_due-some level [] top e = cc
is_top_due-some level (frame ∷ frames) top e =
    let p : slice_get (frame ∷ frames) (length frames) ≡ Some top = ap (slice_get (frame ∷ frames)) (omega arith) ∙ e in
    above_last [] level frame frames ∙ ap (due_last level) p

-- a frame that is due takes its operand, and one that is not stays
pub reduction-top : {X : Type 0} (make : Making X) (level : ℕ) (frames more : List (FrameOf X)) (frame : FrameOf X) (x : X) → frames ≡ frame ∷ more → is_top_due level frames ≡ true → reduction make level frames x ≡ reduction make level more (value_under make frame x)
unfolding reduction
reduction-top make level frames more frame x e due =
    let here : is_due level frame ≡ true = sym (ap (is_top_due level) e) ∙ due in
    ap (λ l. reduction make level l x) e
    ∙ ap (λ b. cond b (reduction make level more (value_under make frame x)) (record { frames = frame ∷ more; value = x })) here

-- if the top is not due everything stays
pub reduction-settled : {X : Type 0} (make : Making X) (level : ℕ) (frames : List (FrameOf X)) (x : X) → is_top_due level frames ≡ false → reduction make level frames x ≡ record { frames = frames; value = x }
unfolding reduction
reduction-settled make level [] x due = refl
reduction-settled make level (frame ∷ frames) x due =
    ap (λ b. cond b (reduction make level frames (value_under make frame x)) (record { frames = frame ∷ frames; value = x })) due

-- no frames have no nesting
pub nesting-nil : nesting (frames_seen []) ≡ 0
unfolding frames_seen frames_above nesting
nesting-nil = refl

-- a frame on top adds its own depth to the nesting
pub nesting-push : (frames : List OpenFrame) (frame : OpenFrame) (depth : ℕ) → ((n : ℕ) → depth_with (frame_seen frame) n ≡ n + depth) → nesting (frames_seen (frames ++ (frame ∷ []))) ≡ nesting (frames_seen frames) + depth
unfolding nesting
nesting-push frames frame depth deeper =
    ap nesting (frames_seen-push frames frame) ∙ deeper (nesting (frames_seen frames))

-- without a last frame there are none
pub frames_seen-none : (frames : List OpenFrame) → slice_get frames (length frames - 1) ≡ None → frames_seen frames ≡ []
unfolding frames_seen frames_above
frames_seen-none [] e = refl
frames_seen-none (frame ∷ frames) e = absurd (never frame frames (ap (slice_get (frame ∷ frames)) (omega arith) ∙ e))
  where
    never : (first : OpenFrame) (others : List OpenFrame) → slice_get (first ∷ others) (length others) ≡ None → ⊥
    never first [] e = cc
    never first (next ∷ others) e = never next others e
