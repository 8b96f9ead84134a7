-- What is written of images is read again: it spells these images.
use Rattle.pnm_serial.proofs.Words.{◌≡◌, ℕ, ◌*◌, ◌<◌, inl, inr, Some, None, List, [], ◌∷◌, ◌++◌, length, map, flat_map, refl, sym, append_assoc, ap, ap₂, ◌∙◌}
use Rattle.pnm_serial.proofs.Words.{arith, zero-mul, suc-mul, AllByRecursion, take_at, drop_at, length-append, Shape, Form, Raw, Plain, SecondPlain}
use Rattle.pnm_serial.proofs.Words.{plain_kind_fault, plain_images_fault, images_fault, HeadValue, IsHead, Image, IsImage, AreImages, cut_rows, rows_of}
use Rattle.pnm_serial.proofs.Words.{AreRowsOf, AreRowsOf-rows_of, length-rows_of, raw_samples, bytes_in_row, SpellsRaw, SpellsRawImage, SpellsRawImages}
use Rattle.pnm_serial.proofs.Words.{SpellsPlainAlone, Spells, header_text, row_bytes, image_bytes, encoding_of, no_first_fault, no_last_fault}
use Rattle.std.proofs.Common.{append-nil}
use Rattle.pnm_serial.proofs.HeaderText.{format_in, raw_header_spells, plain_header_spells}
use Rattle.pnm_serial.proofs.PlainText.{plain_raster_spells}
use Rattle.pnm_serial.proofs.RowText.{RowIsReadAgain, row_is_read_again}

-- ---- the rows of an image

abbrev AreReadAgain : Shape → List (List ℕ) → Type 0
AreReadAgain s rows = AllByRecursion (RowIsReadAgain s) rows

rows_are_read_again : {head : HeadValue} (rows : List (List ℕ)) → IsHead head → AreRowsOf head.shape rows → AreReadAgain head.shape rows
rows_are_read_again [] sound are = tt
rows_are_read_again (row ∷ rows) sound are = (row_is_read_again sound are.0, rows_are_read_again rows sound are.1)

-- the bytes of rows are as many as a reader takes for so many
length_of_rows : (s : Shape) (rows : List (List ℕ)) → AreReadAgain s rows → length (flat_map (row_bytes Raw s) rows) ≡ length rows * bytes_in_row s
length_of_rows s [] are = sym (zero-mul (bytes_in_row s))
length_of_rows s (row ∷ rows) are =
    omega (
      arith,
      length-append (row_bytes Raw s row) (flat_map (row_bytes Raw s) rows),
      are.0.count,
      length_of_rows s rows are.1,
      suc-mul (length rows) (bytes_in_row s),
    )

-- they are cut into the bytes of each row, which give the rows again
rows_again : (s : Shape) (rows : List (List ℕ)) → AreReadAgain s rows
    → map (raw_samples s) (cut_rows (length rows) (bytes_in_row s) (flat_map (row_bytes Raw s) rows)) ≡ rows
rows_again s [] are = refl
rows_again s (row ∷ rows) are =
    let each : ℕ = bytes_in_row s in
    let bytes : List ℕ = row_bytes Raw s row in
    let others : List ℕ = flat_map (row_bytes Raw s) rows in
    ap₂ (λ (a b : List ℕ). raw_samples s a ∷ map (raw_samples s) (cut_rows (length rows) each b)) (take_at bytes others each are.0.count)
    (drop_at bytes others each are.0.count)
    ∙ ap₂ (λ (a : List ℕ) (l : List (List ℕ)). a ∷ l) are.0.samples (rows_again s rows are.1)

-- the bytes of the rows of an image spell its raster
raster_spells : {image : Image} → IsImage image → SpellsRaw (flat_map (row_bytes Raw image.head.shape) (rows_of image)) image
raster_spells {image} sound =
    let s : Shape = image.head.shape in
    let rows : List (List ℕ) = rows_of image in
    let again : AreReadAgain s rows = rows_are_read_again rows sound.head (AreRowsOf-rows_of image sound) in
    let count : length rows ≡ s.height = length-rows_of image in
    record {
      sound = sound;
      count = length_of_rows s rows again ∙ ap (λ (n : ℕ). n * bytes_in_row s) count;
      rows = sym (rows_again s rows again) ∙ ap (λ (n : ℕ). map (raw_samples s) (cut_rows n (bytes_in_row s) (flat_map (row_bytes Raw s) rows))) count;
    }

-- ---- raw images

-- the bytes of an image spell it
image_spells : (image : Image) → IsImage image → 0 < image.head.shape.height → SpellsRawImage (image_bytes Raw image) image
image_spells image sound rows = (
  format_in Raw image.head.shape.kind,
  refl,
  record {
    header = header_text Raw image.head;
    raster = flat_map (row_bytes Raw image.head.shape) (rows_of image);
    whole = refl;
    header_is = raw_header_spells sound.head rows;
    raster_is = raster_spells sound;
  },
)

-- those of images in turn spell these images
images_spell : (images : List Image) → AreImages images → AllByRecursion (λ i. 0 < i.head.shape.height) images → SpellsRawImages (encoding_of Raw images) images
images_spell [] sound rows = refl
images_spell (image ∷ images) sound rows =
    (image_bytes Raw image, encoding_of Raw images, refl, image_spells image sound.0 rows.0, images_spell images sound.1 rows.1)

-- ---- a plain image

-- the text of an image, but for its last LF, spells it
plain_image_spells : {image : Image} → IsImage image → 0 < image.head.shape.height → plain_kind_fault image.head.shape.kind ≡ None
    → SpellsPlainAlone (encoding_of Plain (image ∷ [])) (image ∷ [])
plain_image_spells {image} sound rows held =
    let s : Shape = image.head.shape in
    let head : List ℕ = header_text Plain image.head in
    let text = plain_raster_spells sound rows in
    record {
      image = image;
      first = head ++ text.body;
      rest = 10 ∷ [];
      one = refl;
      whole = append-nil (image_bytes Plain image) ∙ ap (λ (l : List ℕ). head ++ l) text.whole ∙ sym (append_assoc head text.body (10 ∷ []));
      image_is = (
        format_in Plain s.kind,
        refl,
        record {
          header = head;
          raster = text.body;
          whole = refl;
          header_is = plain_header_spells held sound.head rows;
          raster_is = record { sound = sound; samples = text.spelled };
        },
      );
      rest_is = refl;
    }

-- ---- either form

no_second : {A : Type 0} → Some SecondPlain ≡ None → A
no_second e = cc

-- of images that plain form can hold there is one, which isn't PAM
plain_alone_spells : (images : List Image) → 0 < length images → AreImages images → AllByRecursion (λ i. 0 < i.head.shape.height) images
    → plain_images_fault images ≡ None → SpellsPlainAlone (encoding_of Plain images) images
plain_alone_spells [] some sound rows held = absurd (omega arith)
plain_alone_spells (image ∷ []) some sound rows held = plain_image_spells sound.0 rows.0 (no_first_fault (plain_kind_fault image.head.shape.kind) None held)
plain_alone_spells (image ∷ next ∷ images) some sound rows held = no_second (no_last_fault (plain_kind_fault image.head.shape.kind) (Some SecondPlain) held)

pub encoding_spells : (form : Form) (images : List Image) → 0 < length images → AreImages images → AllByRecursion (λ i. 0 < i.head.shape.height) images
    → images_fault form images ≡ None → Spells (encoding_of form images) images
encoding_spells Raw images some sound rows held = inl (some, images_spell images sound rows)
encoding_spells Plain images some sound rows held = inr (plain_alone_spells images some sound rows held)
