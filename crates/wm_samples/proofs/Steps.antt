-- One cell, and one frame, of those that are left.
use Rattle.std.proofs.Common.{◌≡◌, refl, sym, ap, ◌∙◌, Result, Ok, ℕ, suc, ◌+◌, ◌-◌, ◌<◌, ℤ, List, [], ◌∷◌, ◌++◌, arith}
use Rattle.wm_samples.specs.declared.fault.SampleFault.{SampleFault}
use Rattle.wm_samples.specs.Form.{Form}
use Rattle.wm_samples.specs.Samples.{◌>>=◌, State, read_cell, read_cells, read_inputs, read_frames}

one_of : (count at : ℕ) → at < count → count - at ≡ suc (count - (at + 1))
one_of count at more = omega (arith, more)

pub next_cell : (count frame input cell : ℕ) (form : Form) (state : State) → cell < count → read_cells (count - cell) frame input cell form state ≡ (read_cell (record { frame = frame; input = input; cell = cell }) form state >>= λ next. read_cells (count - (cell + 1)) frame input (cell + 1) form next)
next_cell count frame input cell form state more = rw (one_of count cell more) refl

pub next_frame : (count : ℕ) (forms : List Form) (frame : ℕ) (done : List (List ℤ)) (bytes : List ℕ) → frame < count → read_frames (count - frame) forms frame done bytes ≡ (read_inputs forms frame 0 ([], bytes) >>= λ state. read_frames (count - (frame + 1)) forms (frame + 1) (done ++ state.0 ∷ []) state.1)
next_frame count forms frame done bytes more = rw (one_of count frame more) refl

-- once a frame was read, those that are left give what they gave with it
pub frame_read : (count : ℕ) (forms : List Form) (frame : ℕ) (done more : List (List ℤ)) (bytes : List ℕ) (values : List ℤ) (left : List ℕ) (all : Result (List (List ℤ)) SampleFault) → frame < count → read_inputs forms frame 0 ([], bytes) ≡ Ok (values, left) → more ≡ done ++ values ∷ [] → read_frames (count - frame) forms frame done bytes ≡ all → read_frames (count - (frame + 1)) forms (frame + 1) more left ≡ all
frame_read count forms frame done more bytes values left all within read pushed whole =
    ap (λ d. read_frames (count - (frame + 1)) forms (frame + 1) d left) pushed
    ∙ sym (next_frame count forms frame done bytes within ∙ ap (λ r. r >>= λ state. read_frames (count - (frame + 1)) forms (frame + 1) (done ++ state.0 ∷ []) state.1) read)
    ∙ whole
