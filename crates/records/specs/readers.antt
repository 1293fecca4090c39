-- What a file says and what refuses it before anything is computed: the reader of any file; a lab's table of cutoffs; a series, as sent and without its torn specimens; a Satterthwaite test; an archive; the second file that is lent with one.
pub mod Reader
pub mod CutoffTable
pub mod Shortened
pub mod Series
pub mod Parameters
pub mod Archive
pub mod SecondFile
